-- Measured sets in a row. What one set does: the sum is cleared, or grows and stops at the most; the trip stays, is set where the sum is then the most, and
-- only there. So by induction over the sets the sum is what those up to now grow by, at most the most. A trip was set at an older set, or at the newest, whose
-- sum is then the most. The other way, the most was reached at an older set, where the trip was set, and stays; or at the newest, where the sum is the most.
use mathlib.Core.Path.{◌≡◌, refl, ap, ◌∙◌}
use mathlib.Core.Logic.{◌⊎◌, inl, inr, ⊎_elim}
use mathlib.Core.Bool.{Bool, true, false, cond, false≢true}
use mathlib.Core.List.{List, [], ◌∷◌, ◌++◌}
use Prim.Native.Nat.{ℕ, ◌+◌, ◌≤◌, min}
use native.Mathlib.Omega.{arith}
use lib.Dec.{ltb}
use borrow.Author.Tests.{eq-eqb, eqb-true}
use Rattle.inverse_time.specs.declared.Timer.{Timer}
use Rattle.inverse_time.specs.declared.curves.Curve.{Curve}
use Rattle.inverse_time.specs.Timers.{most_sum, growth, sum_after, timer_after}
use Rattle.inverse_time.specs.Rows.{after_sets, grown, Reached, SummedInARow, TrippedInARow}

-- ---- one set, with s in the sum and the trip set or not

module _ (c : Curve) (j s : ℕ) where
  abbrev after : Bool → Timer
  after b = timer_after c j (record { sum = s; trip = b })

  sum_goes : (g : ℕ) → s ≡ min most_sum g → (b : Bool) → (after b).sum ≡ min most_sum (cond (ltb j 11) 0 (growth c j + g))
  unfolding timer_after sum_after
  sum_goes g e b = by (ltb j 11)
    where
      by : (below : Bool) → cond below 0 (min most_sum (s + growth c j)) ≡ min most_sum (cond below 0 (growth c j + g))
      by true = omega arith
      by false = omega arith

  trip_stays : (b : Bool) → b ≡ true → (after b).trip ≡ true
  unfolding timer_after
  trip_stays true e = refl
  trip_stays false e = absurd (false≢true e)

  trip_sets : (b : Bool) → (after b).sum ≡ most_sum → (after b).trip ≡ true
  unfolding timer_after
  trip_sets true e = refl
  trip_sets false e = eq-eqb _ _ e

  pub trip_only : (b : Bool) → (after b).trip ≡ true → (b ≡ true) ⊎ ((after b).sum ≡ most_sum)
  unfolding timer_after
  trip_only true e = inl refl
  trip_only false e = inr (eqb-true _ _ e)

-- ---- all the sets

module _ (c : Curve) where
  pub summed : (js : List ℕ) → (after_sets c js).sum ≡ min most_sum (grown c js)
  summed [] = omega arith
  summed (j ∷ js) = let t = after_sets c js in sum_goes c j t.sum (grown c js) (summed js) t.trip

  pub trips_now : (js : List ℕ) → most_sum ≤ grown c js → (after_sets c js).trip ≡ true
  trips_now [] h = absurd (omega arith)
  trips_now (j ∷ js) h = let t = after_sets c js in trip_sets c j t.sum t.trip (summed (j ∷ js) ∙ omega arith)

  trips_since : (newer older : List ℕ) → most_sum ≤ grown c older → (after_sets c (newer ++ older)).trip ≡ true
  trips_since [] older h = trips_now older h
  trips_since (j ∷ newer) older h = let t = after_sets c (newer ++ older) in trip_stays c j t.sum t.trip (trips_since newer older h)

  since : {js : List ℕ} → Reached c js → (after_sets c js).trip ≡ true
  since r = rw r.is (trips_since r.newer r.older r.enough)

  -- at an older set, or at the newest
  at_older : {js : List ℕ} (j : ℕ) → Reached c js → Reached c (j ∷ js)
  at_older j r = record { newer = j ∷ r.newer; older = r.older; is = ap (λ (l : List ℕ). j ∷ l) r.is; enough = r.enough }

  at_newest : (js : List ℕ) → (after_sets c js).sum ≡ most_sum → Reached c js
  at_newest js e = record { newer = []; older = js; is = refl; enough = omega (arith, summed js) }

  reached : (js : List ℕ) → (after_sets c js).trip ≡ true → Reached c js
  reached [] e = absurd (false≢true e)
  reached (j ∷ js) e =
      let was = after_sets c js in
      ⊎_elim (λ t. at_older j (reached js t)) (λ s. at_newest (j ∷ js) s) (trip_only c j was.sum was.trip e)

pub summed_in_a_row : SummedInARow
unfolding SummedInARow
summed_in_a_row c js = summed c js

pub tripped_in_a_row : TrippedInARow
unfolding TrippedInARow
tripped_in_a_row c js = (reached c js, since c)
