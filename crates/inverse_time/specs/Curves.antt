-- The two curves (§ Backup overcurrent 4; IEC 60255-151, curves B and C, multiplier 1, 600 sets a second).
use Rattle.std.specs.Prelude.{◌≡◌, cond, List, ℕ, ◌+◌, ◌-◌, ◌*◌, ◌/◌, ◌^◌, ◌≤◌, eqb, get_or}
use Rattle.inverse_time.specs.declared.curves.Curve.{Curve}
use Rattle.inverse_time.specs.declared.curves.Curve.TheVariants.{VeryInverse, ExtremelyInverse}

-- byte 76 of the setting: 1 very inverse, 2 extremely inverse
abbrev pub curve_of : ℕ → Curve
curve_of byte = cond (eqb byte 1) VeryInverse ExtremelyInverse

-- ---- the tables

-- The entry, for j = 11 to 200, is the least whole number at least 81,000 / (j − 10), or 4,800,000 / (j² − 100).
abbrev pub over : Curve → ℕ
over VeryInverse = 81000
over ExtremelyInverse = 4800000

abbrev pub under : Curve → (j : ℕ) → ℕ
under VeryInverse j = j - 10
under ExtremelyInverse j = j * j - 100

unfoldable pub entry : Curve → (j : ℕ) → ℕ
entry c j = (over c + (under c j - 1)) / under c j

-- n is the least whole number at least a / b
pub record LeastAtLeast (a b n : ℕ) : Type 0 where
  pub enough : a ≤ n * b
  pub least : (m : ℕ) → a ≤ m * b → n ≤ m

unfoldable pub EntryLeast : Type 0
EntryLeast = (c : Curve) (j : ℕ) → 11 ≤ j → j ≤ 200 → LeastAtLeast (over c) (under c j) (entry c j)

-- number k of a table, as the code reads it
pub record NumberOf (table : List ℕ) (k r : ℕ) : Type 0 where
  pub is : r ≡ get_or table k 0

-- ---- the standard

-- IEC 60255-151: at G times the pick-up, multiplier 1, the element operates after k / (G^α − 1) seconds. Curve B, very inverse: k 13.5, α 1; curve C, extremely
-- inverse: k 80, α 2. Here k is in tenths of a second.
abbrev pub tenths : Curve → ℕ
tenths VeryInverse = 135
tenths ExtremelyInverse = 800

abbrev pub exponent : Curve → ℕ
exponent VeryInverse = 1
exponent ExtremelyInverse = 2

-- With G = j / 10, and 60 sets in a tenth of a second, that is 60·k·10^α / (j^α − 10^α) sets: the fraction that the entry is rounded up from.
unfoldable pub ByStandard : Type 0
ByStandard = (c : Curve) (j : ℕ) → (over c ≡ 60 * tenths c * 10 ^ exponent c) × (under c j ≡ j ^ exponent c - 10 ^ exponent c)
