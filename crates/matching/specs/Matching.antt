-- Matching (§ Matching; source 001, 2.1 and 2.2): the group operation, zero sequence, and the matched number.
use Rattle.std.specs.Prelude.{Bool, true, false, [], ◌∷◌, ℕ, ◌*◌, ◌%◌, eqb, ℤ, pos, neg_ℤ, ◌+ℤ◌, ◌-ℤ◌, ◌*ℤ◌, get_or}
use Rattle.integer.specs.Nearest.{nearest_away}
use Rattle.matching.specs.declared.Three.{Three}

-- Three numbers as a system sees them: p of its own phase, n of the next, q of the one before (§ Matching 4).
abbrev pub three : (p n q : ℤ) → Three
three p n q = record { p = p; n = n; q = q }

-- The group operation T(g) of p, n and q (§ Matching 5). At odd groups it is still to be taken 780/1351 times.
unfoldable pub operation : ℕ → (p n q : ℤ) → ℤ
operation g p n q =
    get_or
    (p ∷ (p -ℤ n) ∷ neg_ℤ n ∷ (q -ℤ n) ∷ q ∷ (q -ℤ p)
    ∷ neg_ℤ p ∷ (n -ℤ p) ∷ n ∷ (n -ℤ q) ∷ neg_ℤ q ∷ (p -ℤ q) ∷ [])
    g
    (pos 0)

abbrev pub even : ℕ → Bool
even g = eqb (g % 2) 0

-- A + B + C, which is three times z0
abbrev pub sum3 : Three → ℤ
sum3 x = x.p +ℤ x.n +ℤ x.q

-- a number y, less the z0 of x, three times
abbrev pub less_zero : Three → ℤ → ℤ
less_zero x y = pos 3 *ℤ y -ℤ sum3 x

-- An exact quotient: top / under.
pub record Quotient : Type 0 where
  pub top : ℤ
  pub under : ℕ

-- What K/65,536 multiplies (§ Matching 6). Filter on: even groups use p − z0, n − z0, q − z0 for p, n, q; odd groups stay. Filter off: odd groups add z0.
unfoldable pub operated : (isEven filter : Bool) → ℕ → Three → Quotient
operated true false g x = record { top = operation g x.p x.n x.q; under = 1 }
operated true true g x = record { top = operation g (less_zero x x.p) (less_zero x x.n) (less_zero x x.q); under = 3 }
operated false true g x = record { top = pos 780 *ℤ operation g x.p x.n x.q; under = 1351 }
operated false false g x = record { top = pos 3 *ℤ (pos 780 *ℤ operation g x.p x.n x.q) +ℤ pos 1351 *ℤ sum3 x; under = 3 * 1351 }

-- The matched number v: K/65,536 times that, to the nearest, rounded once, a half away from zero (§ Matching 7). It is in
-- thousandths of reference current.
unfoldable pub matched : (K : ℤ) (g : ℕ) (filter : Bool) → Three → ℤ
matched K g filter x = nearest_away (K *ℤ (operated (even g) filter g x).top) (65536 * (operated (even g) filter g x).under)
