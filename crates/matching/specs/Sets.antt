-- The matched numbers of a sample set (§ Matching; by end and system, § The relay record 1).
use Rattle.std.specs.Prelude.{Bool, cond, List, ℕ, zero, suc, ◌+◌, ◌*◌, ◌/◌, ◌%◌, ltb, eqb, ℤ, pos, get_or}
use Rattle.lists.specs.Lists.{up_to}
use Rattle.setting.specs.declared.End.{End}
use Rattle.setting.specs.declared.Setting.{Setting}
use Rattle.setting.specs.Values.{end_of, factor}
use Rattle.systems.specs.declared.Systems.{Systems}
use Rattle.matching.specs.declared.Three.{Three}
use Rattle.matching.specs.Matching.{three, matched}

-- Systems 1, 2, 3 belong to phases A, B, C (§ Words and units), and to the limbs A, B, C of a bank.
pub data System : Type 0 where
  sys_a : System
  sys_b : System
  sys_c : System

abbrev pub index : System → ℕ
index sys_a = 0
index sys_b = 1
index sys_c = 2

abbrev pub system : ℕ → System
system zero = sys_a
system (suc zero) = sys_b
system (suc (suc k)) = sys_c

-- three numbers as the next phase sees them
abbrev pub from_next : Three → Three
from_next x = record { p = x.n; n = x.q; q = x.p }

-- Three numbers of A, B, C, as a system sees them: its own, the next, the one before.
unfoldable pub seen : System → Three → Three
seen sys_a x = x
seen sys_b x = from_next x
seen sys_c x = from_next (from_next x)

-- the samples A, B, C of end z in a set of 12: ends 0 to 3, each A, B, C
abbrev pub phases : List ℤ → ℕ → Three
phases xs z = three (get_or xs (3 * z) (pos 0)) (get_or xs (3 * z + 1) (pos 0)) (get_or xs (3 * z + 2) (pos 0))

abbrev pub filtered : End → Bool
filtered e = eqb e.filter 1

-- ---- the matched numbers of an end for the three systems

-- the matched number of end z and a system
unfoldable pub matched_at : Setting → List ℤ → ℕ → System → ℤ
matched_at v xs z l = matched (factor v z) (end_of v z).group (filtered (end_of v z)) (seen l (phases xs z))

-- the same, zero at an end that is not in use
abbrev pub place_of : Setting → List ℤ → ℕ → System → ℤ
place_of v xs z l = cond (ltb z v.ends) (matched_at v xs z l) (pos 0)

unfoldable pub trio_at : Setting → List ℤ → ℕ → Systems ℤ
trio_at v xs z = record { a = place_of v xs z sys_a; b = place_of v xs z sys_b; c = place_of v xs z sys_c }

-- ---- the twelve matched numbers of a set: end z and system y at place 3z + y

unfoldable pub numbers : Setting → List ℤ → List ℤ
numbers v xs = up_to 12 (λ j. place_of v xs (j / 3) (system (j % 3)))

-- the number of end z and a system among twelve
abbrev pub number_at : List ℤ → ℕ → System → ℤ
number_at h z l = get_or h (3 * z + index l) (pos 0)
