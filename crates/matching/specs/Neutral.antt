-- Neutral current (§ A healthy bank 3 and 5, card 8; source 001, 3.4.2). The bank as it was before that request carries none: w sums to zero over the
-- limbs at every end. It is that case of the wider bank.
use Rattle.std.specs.Prelude.{◌≡◌, false, List, ℕ, ◌≤◌, ◌<◌, T, ℤ, pos}
use Rattle.integer.specs.Within.{◌within◌}
use Rattle.integer.specs.Sum.{sum}
use Rattle.setting.specs.declared.Setting.{Setting}
use Rattle.setting.specs.Values.{end_of, factor_top, factor_under, startable}
use Rattle.matching.specs.declared.Three.{Three}
use Rattle.matching.specs.Matching.{even, sum3}
use Rattle.matching.specs.Sets.{System, seen, phases, filtered}
use Rattle.matching.specs.Bank.{line_current, over_k, plus_common, NearIdeal, Healthy}

-- The set xs holds, within half a unit per sample, the currents of a healthy bank of the setting v as it was before card 8.
pub record WithoutNeutral (v : Setting) (xs : List ℤ) : Type 0 where
  -- there are whole numbers w, by end and limb A, B, C, in thousandths of a unit
  pub w : ℕ → Three
  -- they sum to zero over the ends for each limb
  pub over_ends : (l : System) → sum v.ends (λ z. (seen l (w z)).p) ≡ pos 0
  -- and over the limbs at each end
  pub over_limbs : (z : ℕ) → z < v.ends → sum3 (w z) ≡ pos 0
  -- one more whole number of thousandths at each end with the filter on, the same on its three phases
  pub common : ℕ → ℤ
  pub unfiltered : (z : ℕ) → z < v.ends → filtered (end_of v z) ≡ false → common z ≡ pos 0
  -- each sample of an end in use lies within 1/2 of its ideal, which is the same with the filter on and off
  pub near : (z : ℕ) → z < v.ends → (l : System) →
      let e = end_of v z in
      let line = line_current (even e.group) e.group (seen l (w z)) in
      NearIdeal (plus_common (over_k (factor_top e) (factor_under v) line) (common z)) (seen l (phases xs z)).p
  -- others are zero
  pub others : (z : ℕ) → v.ends ≤ z → z < 4 → (l : System) → (seen l (phases xs z)).p ≡ pos 0

-- a healthy bank in the wider sense, of which w sums to zero over the limbs at every end
pub record SumsZero (v : Setting) (xs : List ℤ) : Type 0 where
  pub bank : Healthy v xs
  pub over_limbs : (z : ℕ) → z < v.ends → sum3 (bank.w z) ≡ pos 0

-- Every set that was healthy before card 8 is healthy now, as the case of sums that are zero; and every set of that case was healthy before.
unfoldable pub Widened : Type 0
Widened = (v : Setting) (xs : List ℤ) → (WithoutNeutral v xs → SumsZero v xs) × (SumsZero v xs → WithoutNeutral v xs)

-- Before, the three samples of an end with the filter off summed to at most one unit: neutral current was no more than what the half units leave.
unfoldable pub NeutralBefore : Type 0
NeutralBefore =
    (v : Setting) → T (startable v) → (xs : List ℤ) → WithoutNeutral v xs → (z : ℕ) → z < v.ends → filtered (end_of v z) ≡ false →
    sum3 (phases xs z) within 1
