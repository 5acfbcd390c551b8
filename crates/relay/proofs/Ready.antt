-- An accepted set of an admissible record: its samples are in reach, and its matched numbers are as large as a record may hold. So it is ready for
-- matching, filing and measuring.
use mathlib.Core.Path.{◌≡◌, refl}
use mathlib.Core.Bool.{Bool, true, false, cond}
use mathlib.Core.List.{List}
use Prim.Native.Nat.{ℕ, ◌+◌, ◌*◌, ◌/◌, ◌%◌, ◌≤◌}
use native.Mathlib.Omega.{arith}
use lib.Dec.{T, leb, ltb, leb→le}
use borrow.Author.Tests.{ltb-true, eqb-true}
use lib.IntN.{ℤ, pos, nat_abs}
use lib.ListN.{length}
use Rattle.integer.specs.Within.{◌within◌}
use Rattle.lists.specs.Tests.{Each}
use Rattle.integer.proofs.Reading.{ints}
use Rattle.integer.proofs.Laws.{within-≤}
use Rattle.lists.proofs.Places.{up_to_each}
use Rattle.lists.proofs.TestLaws.{not-not, is_true, each_get, test_each}
use Rattle.refusal.proofs.Stops.{none_of}
use Rattle.setting.specs.declared.Setting.{Setting}
use Rattle.setting.specs.Values.{startable}
use Rattle.setting.specs.Limits.{Limits}
use Rattle.setting.proofs.LimitLaws.{startable_is, timers_on}
use Rattle.matching.specs.Sets.{System, sys_a, sys_b, sys_c, seen, phases, matched_at, numbers, system}
use Rattle.matching.specs.Bank.{InReach, MatchedBound}
use Rattle.matching.specs.Weights.{weights_of}
use Rattle.matching.specs.MatchingInput.{SetInput}
use Rattle.measuring.specs.WindowInput.{Measurable}
use Rattle.overcurrent.specs.Watching.{WatchInput}
use Rattle.state.specs.declared.Window.{Window}
use Rattle.state.proofs.Placed.{Sized, zero_sized, numbers_sized, window_with_sized}
use Rattle.relay.specs.declared.Relay.{Relay}
use Rattle.relay.specs.Record.{admissible}
use Rattle.relay.specs.Calls.{twelve, in_reach, set_rows, accepted, window_after}
use Rattle.relay.proofs.Admission.{admitted}
use Rattle.matching.proofs.Total.{matched_bound}
use Rattle.page.specs.PageInput.{Held}
use Rattle.page.proofs.HeldLaws.{measurable}

module _ (v : Setting) (xs : List ℤ) where
  reach_of : T (in_reach xs) → InReach v xs
  unfolding seen
  reach_of t z h = by (test_each (λ x. leb (nat_abs x) 32000) (λ x s. record { size = leb→le (nat_abs x) 32000 s }) xs t)
    where
      zero_within : pos 0 within 32000
      zero_within = simp ints (omega arith)

      by : Each (λ x. x within 32000) xs → (l : System) → (seen l (phases xs z)).p within 32000
      by e sys_a = each_get e zero_within (3 * z)
      by e sys_b = each_get e zero_within (3 * z + 1)
      by e sys_c = each_get e zero_within (3 * z + 2)

  module _ (t : T (accepted v xs)) where
    pub reach : InReach v xs
    unfolding set_rows
    reach = reach_of (not-not (in_reach xs) (none_of (set_rows v xs) t 10))

    long : length xs ≡ 12
    unfolding set_rows
    long = eqb-true (length xs) 12 (is_true (not-not (twelve xs) (none_of (set_rows v xs) t 14)))

    pub numbers_ready : T (startable v) → (ws : List ℤ) → ws ≡ weights_of v → SetInput v ws xs
    numbers_ready s ws e = record { sound = s; weights = e; twelve = long; reach = reach }

  sized_of : T (startable v) → InReach v xs → Each Sized (numbers v xs)
  unfolding numbers MatchedBound
  sized_of s r = up_to_each 12 _ (λ j l. by (j / 3) (system (j % 3)) (ltb (j / 3) v.ends) refl)
    where
      by : (z : ℕ) (l : System) (b : Bool) → ltb z v.ends ≡ b → Sized (cond b (matched_at v xs z l) (pos 0))
      by z l true e = within-≤ (matched_bound v s xs r z (ltb-true z v.ends e) l) (omega arith)
      by z l false e = zero_sized

module _ (r : Relay) (a : admissible r ≡ true) where
  pub factors_ready : Limits r.setting
  factors_ready = (startable_is r.setting (admitted r a 0)).limits

  pub few_held : r.window.fill ≤ 12
  few_held = leb→le _ _ (admitted r a 1)

  pub held : Held r.setting r.window
  held = record { sound = admitted r a 0; few = few_held; small = admitted r a 2 }

  -- a full window of its setting, with the sums that it holds
  pub watch_ready : (win : List ℤ) → Measurable r.setting win → WatchInput r.setting win r.backup
  watch_ready win m = record { measurable = m; on = timers_on r.setting (admitted r a 0); sums = admitted r a 5 }

module _ (r : Relay) (xs : List ℤ) (a : admissible r ≡ true) where
  -- the numbers of the window with the set filed
  pub window_sized : InReach r.setting xs → Each Sized (window_after r xs).values
  window_sized h = window_with_sized r.window (numbers r.setting xs) (numbers_sized (admitted r a 2)) (sized_of r.setting xs (admitted r a 0) h)

  pub measure_ready : T (accepted r.setting xs) → (w : Window) → w ≡ window_after r xs → length w.values ≡ 144 → Measurable r.setting w.values
  measure_ready t w e long = measurable r.setting (admitted r a 0) w.values long (rw e (window_sized (reach r.setting xs t)))
