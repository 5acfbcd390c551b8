-- What a planner asks. A quotient is below 11 where the number is below 11 divisors, and the most, 200, changes nothing there. An end below 11 at every set is
-- cleared again and again. One held at j of at least 11 grows by as much at every set, so in all by growth times the sets, and has tripped once that is
-- 1,000,000,000. The least such number n of sets is not below the entry: n·growth·entry is at least 1,000,000,000·entry, and at most n·1,000,000,000.
use mathlib.Core.Path.{◌≡◌, refl}
use mathlib.Core.Logic.{⊎_elim}
use mathlib.Core.Bool.{true, false≢true}
use mathlib.Core.List.{[], ◌∷◌}
use Prim.Native.Nat.{ℕ, zero, suc, ◌+◌, ◌-◌, ◌*◌, ◌/◌, ◌≤◌, ◌<◌}
use native.Mathlib.Omega.{arith}
use native.Mathlib.Nat.{div-lt_iff_lt-mul, div-mul-le_self, le-div_iff_mul-le, mul-le-mul_left, mul-le-mul_right, le_of_mul-le-mul_right}
use lib.ListN.{replicate}
use borrow.Author.Tests.{le-ltb}
use Rattle.lists.specs.Tests.{none, ◌&◌}
use Rattle.inverse_time.specs.declared.curves.Curve.{Curve}
use Rattle.inverse_time.specs.Curves.{entry, LeastAtLeast}
use Rattle.inverse_time.specs.Timers.{multiple, most_sum, growth}
use Rattle.inverse_time.specs.Rows.{after_sets, grown}
use Rattle.inverse_time.specs.Planning.{PickUp, Unmoved, HeldTrips}
use Rattle.inverse_time.proofs.CurveLaws.{entry_within, rounded_up}
use Rattle.inverse_time.proofs.TimerLaws.{idle_stays}
use Rattle.inverse_time.proofs.RowLaws.{summed, trips_now, trip_only}

pub pick_up : PickUp
unfolding PickUp multiple
pick_up X A h = (λ l. (div-lt_iff_lt-mul h).0 (omega arith), λ l. let q : 10 * A / X < 11 = (div-lt_iff_lt-mul h).1 l in omega arith)

pub unmoved : Unmoved
unfolding Unmoved
unmoved c [] none = refl
unmoved c (j ∷ js) (h & k) = rw (unmoved c js k) (idle_stays c j h)

-- ---- an end held at a j of at least 11

module _ (c : Curve) (j : ℕ) (l : 11 ≤ j) where
  grown_held : (sets : ℕ) → grown c (replicate sets j) ≡ sets * growth c j
  grown_held zero = omega arith
  grown_held (suc sets) = rw (le-ltb j 11 l) (omega (arith, grown_held sets))

  held_sets : (sets : ℕ) → most_sum ≤ sets * growth c j → (after_sets c (replicate sets j)).trip ≡ true
  held_sets sets h = trips_now c (replicate sets j) (omega (arith, grown_held sets))

  held_only : (sets : ℕ) → (after_sets c (replicate sets j)).trip ≡ true → most_sum ≤ sets * growth c j
  held_only zero e = absurd (false≢true e)
  held_only (suc sets) e =
      ⊎_elim (λ t. omega (arith, held_only sets t)) (λ s. omega (arith, summed c (replicate (suc sets) j), grown_held (suc sets)))
      (let t = after_sets c (replicate sets j) in trip_only c j t.sum t.trip e)

-- g times e at most a, and n times g at least a
not_below_lem : (a e g n : ℕ) → 0 < a → g * e ≤ a → a ≤ n * g → e ≤ n
not_below_lem a e g n some h k = le_of_mul-le-mul_right (omega (arith, mul-le-mul_left n h, mul-le-mul_right e k)) some

pub held_trips : HeldTrips
unfolding HeldTrips growth
held_trips c j l h = record {
  n = (most_sum + (growth c j - 1)) / growth c j;
  is = least;
  trips = λ sets. (
    λ t. omega (arith, least.least sets (held_only c j l sets t)),
    λ k. held_sets c j l sets (omega (arith, least.enough, mul-le-mul_right (growth c j) k)),
  );
  not_below = not_below_lem most_sum (entry c j) (growth c j) _ (omega arith) (div-mul-le_self most_sum (entry c j)) least.enough;
}
  where
    some : 1 ≤ growth c j
    some = let e = entry_within c j l h in (le-div_iff_mul-le e.0).1 (omega arith)

    least : LeastAtLeast most_sum (growth c j) ((most_sum + (growth c j - 1)) / growth c j)
    least = rounded_up most_sum some
