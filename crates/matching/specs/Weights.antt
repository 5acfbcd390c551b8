-- The matched numbers by weights. What the matching makes of three samples is linear in them before it is rounded, so an end has three numbers, which
-- depend on the setting alone: what it makes of 1 on the own phase, on the next, on the one before. They are what the code multiplies.
use Rattle.std.specs.Prelude.{cond, List, ℕ, zero, suc, ◌*◌, ◌/◌, ◌%◌, ltb, ℤ, pos, ◌+ℤ◌, ◌*ℤ◌}
use Rattle.integer.specs.Nearest.{nearest_away}
use Rattle.lists.specs.Lists.{up_to}
use Rattle.setting.specs.declared.Setting.{Setting}
use Rattle.setting.specs.Values.{end_of}
use Rattle.setting.specs.Limits.{factor_or0}
use Rattle.systems.specs.declared.Systems.{Systems}
use Rattle.matching.specs.declared.Three.{Three}
use Rattle.matching.specs.Matching.{three, Quotient, even, operated}
use Rattle.matching.specs.Sets.{System, sys_a, sys_b, sys_c, seen, phases, filtered}

-- A quotient in parts of 4053 = 3·1351, which the under of every case divides.
abbrev pub parts : Quotient → ℤ
parts o = pos (4053 / o.under) *ℤ o.top

-- 1 on one phase: the own, the next, the one before
abbrev pub own : Three
own = three (pos 1) (pos 0) (pos 0)

abbrev pub next : Three
next = three (pos 0) (pos 1) (pos 0)

abbrev pub before : Three
before = three (pos 0) (pos 0) (pos 1)

abbrev pub single : ℕ → Three
single zero = own
single (suc zero) = next
single (suc (suc y)) = before

-- What K/65,536 and the group operation of end z make of x, in parts of 65,536·4053 and not rounded. K is 0 at an end that is not in use.
abbrev pub weight_of : Setting → ℕ → Three → ℤ
weight_of v z x = let e = end_of v z in factor_or0 v z *ℤ parts (operated (even e.group) (filtered e) e.group x)

-- the three weights of end z
unfoldable pub weights_at : Setting → ℕ → Three
weights_at v z = three (weight_of v z own) (weight_of v z next) (weight_of v z before)

-- the twelve weights: end z at places 3z, 3z + 1, 3z + 2
unfoldable pub weights_of : Setting → List ℤ
weights_of v = up_to 12 (λ j. weight_of v (j / 3) (single (j % 3)))

-- three samples by three weights, to the nearest, rounded once, a half away from zero
unfoldable pub weighed : (w x : Three) → ℤ
weighed w x = nearest_away (w.p *ℤ x.p +ℤ w.n *ℤ x.n +ℤ w.q *ℤ x.q) (65536 * 4053)

-- that of end z and a system in a set, by twelve weights; zero at an end that is not in use
abbrev pub weighed_at : (ends : ℕ) (ws xs : List ℤ) → ℕ → System → ℤ
weighed_at ends ws xs z l = cond (ltb z ends) (weighed (phases ws z) (seen l (phases xs z))) (pos 0)

unfoldable pub weighed_trio : (ends : ℕ) (ws xs : List ℤ) → ℕ → Systems ℤ
weighed_trio ends ws xs z = record { a = weighed_at ends ws xs z sys_a; b = weighed_at ends ws xs z sys_b; c = weighed_at ends ws xs z sys_c }
