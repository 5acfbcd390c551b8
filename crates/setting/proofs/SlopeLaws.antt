-- A start's rows are a block's with 17 between 5 and 6. So they tell the same where slopes do not fall; where they do, what a block's rows tell comes
-- first if it is 4 or 5, and 17 else.
use mathlib.Core.Path.{◌≡◌, refl, ◌∙◌}
use mathlib.Core.Bool.{Bool, true, false, not, cond, ◌&&◌}
use Rattle.std.specs.Prelude.{Option}
use Prim.Native.Nat.{ℕ, ◌≤◌}
use native.Mathlib.Omega.{arith}
use lib.Dec.{T, leb, ltb→lt}
use borrow.Author.Tests.{le-ltb, ltb-false}
use Rattle.lists.proofs.TestLaws.{split, pair, is_true, is_false}
use Rattle.refusal.specs.Refusals.{Outcome, declines, by_outcome, alone, done, first_refusal}
use Rattle.refusal.proofs.Stops.{none_gives}
use Rattle.setting.specs.declared.Setting.{Setting}
use Rattle.setting.specs.Values.{between, fields, all_right, lowest, factor_high, factors_low, value_rows, store_rows, storable, falling, start_rows, startable}
use Rattle.setting.specs.Slopes.{StartableIs, StartAfterReading}

-- ---- what is told

-- 17 beside what a block's rows tell
abbrev beside17 : Outcome (Unit {0}) → Outcome (Unit {0})
beside17 o = by_outcome o (λ told. cond (leb told.number 5) (declines told) (declines (alone 17))) (λ done. declines (alone 17))

module _ (v : Setting) where
  pub told_level : falling v.thresholds ≡ false → first_refusal (start_rows v) ≡ first_refusal (store_rows v)
  unfolding start_rows value_rows
  told_level e = rw e

  told_falling : falling v.thresholds ≡ true → first_refusal (start_rows v) ≡ beside17 (first_refusal (store_rows v))
  unfolding start_rows value_rows
  told_falling e = rw e (by (not (between 2 4 v.ends)) (not (all_right (fields v))) (factor_high v) (factors_low v) (lowest (fields v)))
    where
      by : (a b c d : Bool) (x : Option ℕ) →
          cond a (declines (alone 4)) (cond b (declines (record { number = 5; offset = x })) (declines (alone 17)))
          ≡ beside17
          (cond a (declines (alone 4))
          (cond b (declines (record { number = 5; offset = x })) (cond c (declines (alone 6)) (cond d (declines (alone 7)) done))))
      by true b c d x = refl
      by false true c d x = refl
      by false false true d x = refl
      by false false false true x = refl
      by false false false false x = refl

-- ---- on which values nothing is told

start_when : (v : Setting) → startable v ≡ (storable v && not (falling v.thresholds))
unfolding start_rows value_rows
start_when v = by (between 2 4 v.ends) (all_right (fields v)) (not (factor_high v) && (not (factors_low v) && true)) (falling v.thresholds)
  where
    by : (a b r f : Bool) → (not (not a) && (not (not b) && (not f && r))) ≡ ((not (not a) && (not (not b) && r)) && not f)
    by false b r f = refl
    by true false r f = refl
    by true true true true = refl
    by true true true false = refl
    by true true false true = refl
    by true true false false = refl

module _ (v : Setting) where
  pub startable_storable : T (startable v) → T (storable v)
  startable_storable h = (split (storable v) _ (rw (start_when v) at h)).0

  pub slopes_rise : T (startable v) → v.thresholds.slope1 ≤ v.thresholds.slope2
  slopes_rise h = by (falling v.thresholds) refl (split (storable v) _ (rw (start_when v) at h)).1
    where
      by : (b : Bool) → falling v.thresholds ≡ b → T (not b) → v.thresholds.slope1 ≤ v.thresholds.slope2
      by true e t = absurd t
      by false e t = ltb-false v.thresholds.slope2 v.thresholds.slope1 e

  rise_startable : T (storable v) → v.thresholds.slope1 ≤ v.thresholds.slope2 → T (startable v)
  rise_startable s l =
      let f : falling v.thresholds ≡ false = le-ltb v.thresholds.slope2 v.thresholds.slope1 l in
      rw (start_when v) (pair (storable v) _ s (rw f tt))

pub startable_only : StartableIs
unfolding StartableIs
startable_only v = (λ h. (startable_storable v h, slopes_rise v h), λ p. rise_startable v p.0 p.1)

pub falling_not : (v : Setting) → T (falling v.thresholds) → startable v ≡ false
falling_not v f = is_false (λ h. omega (arith, slopes_rise v h, ltb→lt v.thresholds.slope2 v.thresholds.slope1 f))

pub start_after_reading : StartAfterReading
unfolding StartAfterReading
start_after_reading v s = by (falling v.thresholds) refl
  where
    stored : first_refusal (store_rows v) ≡ done
    stored = none_gives (store_rows v) s _

    by : (b : Bool) → falling v.thresholds ≡ b → first_refusal (start_rows v) ≡ cond b (declines (alone 17)) done
    by true e = told_falling v e ∙ rw stored
    by false e = told_level v e ∙ stored

pub falling_told : (v : Setting) → T (storable v) → T (falling v.thresholds) → first_refusal (start_rows v) ≡ declines (alone 17)
unfolding StartAfterReading
falling_told v s f = let e : falling v.thresholds ≡ true = is_true f in start_after_reading v s ∙ rw e
