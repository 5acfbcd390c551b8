-- A window in parts, as the code works it out: the six parts of c and s for each of a set's twelve numbers, and the currents by them.
use Rattle.std.specs.Prelude.{◌≡◌, cond, List, ℕ, ◌+◌, ◌*◌, ◌≤◌, ◌<◌, eqb, ℤ, pos, neg_ℤ, ◌*ℤ◌, ◌-ℤ◌, length, get_or}
use Rattle.integer.specs.Within.{◌within◌}
use Rattle.integer.specs.Sum.{sum}
use Rattle.amplitude.specs.Parts.{part, joined, of_sums}
use Rattle.characteristic.specs.declared.Currents.{Currents}
use Rattle.measuring.specs.Measuring.{sumℕ}
use Rattle.measuring.specs.WindowInput.{WindowInput}

-- number i of set k
abbrev pub column : List ℤ → (i k : ℕ) → ℤ
column win i k = get_or win (12 * k + i) (pos 0)

-- the sum of number i of each set, each times its share w
unfoldable pub combined : (win w : List ℤ) (i : ℕ) → ℤ
combined win w i = sum 12 (λ k. get_or w k (pos 0) *ℤ column win i k)

pub record CombinedInput (win w : List ℤ) (i : ℕ) : Type 0 where
  pub window : WindowInput win
  pub shares : (k : ℕ) → get_or w k (pos 0) within 2
  pub place : i < 12

-- 72 numbers as large as parts may be: twelve for each of the six
pub record PartsLike (f : List ℤ) : Type 0 where
  pub long : length f ≡ 72
  pub small : (k : ℕ) → get_or f k (pos 0) within 12800000

-- number 12·p + i is part p of number i of the sets
pub record Folds (win f : List ℤ) : Type 0 where
  pub like : PartsLike f
  pub is : (p i : ℕ) → p < 6 → i < 12 → get_or f (12 * p + i) (pos 0) ≡ part p (column win i)

-- ---- the currents by these parts

-- part p of end z and system y
abbrev pub part_at : List ℤ → (p z y : ℕ) → ℤ
part_at f p z y = get_or f (12 * p + (3 * z + y)) (pos 0)

-- over the ends in use
unfoldable pub over_ends : (ends : ℕ) → List ℤ → (p y : ℕ) → ℤ
over_ends E f p y = sum E (λ z. part_at f p z y)

-- the amplitudes for h = 1, 2, 5 of what has the parts g
abbrev pub first_by : (ℕ → ℤ) → ℕ
first_by g = of_sums (joined (g 0) (g 1)) (joined (g 2) (g 3))

abbrev pub second_by : (ℕ → ℤ) → ℕ
second_by g = of_sums (joined (g 4) (pos 0)) (joined (pos 0) (g 5))

abbrev pub fifth_by : (ℕ → ℤ) → ℕ
fifth_by g = of_sums (joined (g 0) (neg_ℤ (g 1))) (joined (g 2) (neg_ℤ (g 3)))

pub record FirstOf (g : ℕ → ℤ) (r : ℕ) : Type 0 where
  pub is : r ≡ first_by g
  pub small : r ≤ 32000000

-- R, twice the restraint
unfoldable pub twice_restraint_by : (ends : ℕ) → List ℤ → (y : ℕ) → ℕ
twice_restraint_by E f y = cond (eqb E 2) (first_by (λ p. part_at f p 0 y -ℤ part_at f p 1 y)) (sumℕ E (λ z. first_by (λ p. part_at f p z y)))

-- with this R, twice the restraint
unfoldable pub currents_with : (ends : ℕ) → List ℤ → (y r : ℕ) → Currents
currents_with E f y r = let g : ℕ → ℤ = λ p. over_ends E f p y in record { d = first_by g; r = r; h2 = second_by g; h5 = fifth_by g }

abbrev pub currents_by : (ends : ℕ) → List ℤ → (y : ℕ) → Currents
currents_by E f y = currents_with E f y (twice_restraint_by E f y)
