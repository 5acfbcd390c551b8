-- The overcurrent elements over lists of calls. The invariant: the window is that of the last twelve sets filed (Demand2.antt), so a set is measured by the
-- record, and at the same j, where it is by the course; and the timer of an end in use is the one after the sets of the course. Then the laws of sets in a
-- row, of crate `overcurrent`. And where each A is below 1.1·X, a set leaves a cleared timer cleared.
use mathlib.Core.Path.{◌≡◌, refl, sym, ◌∙◌, subst}
use mathlib.Core.Logic.{◌↔◌}
use mathlib.Core.Bool.{Bool, true, false, not, cond, true≢false}
use mathlib.Core.List.{List, [], ◌∷◌}
use Prim.Native.Nat.{ℕ, ◌*◌, ◌<◌, min}
use native.Mathlib.Omega.{arith}
use lib.Dec.{T, ltb, eqb}
use borrow.Author.Tests.{not-true}
use Rattle.lists.proofs.TestLaws.{split, is_true}
use Rattle.refusal.specs.Refusals.{gives}
use Rattle.setting.specs.declared.Setting.{Setting}
use Rattle.setting.specs.Values.{startable}
use Rattle.setting.proofs.LimitLaws.{startable_is, timers_on}
use Rattle.inverse_time.specs.declared.Timer.{Timer}
use Rattle.inverse_time.specs.Timers.{multiple, most_sum, timer_after, idle}
use Rattle.overcurrent.specs.Ends.{timer_of, per_end, trips_of}
use Rattle.overcurrent.specs.Watching.{largest, backup_by}
use Rattle.inverse_time.specs.Rows.{after_sets, grown, Reached, SummedInARow, TrippedInARow}
use Rattle.inverse_time.specs.Planning.{PickUp}
use Rattle.overcurrent.proofs.EndLaws.{timer_idle, timer_at_lem, idle_kept}
use Rattle.inverse_time.proofs.RowLaws.{summed_in_a_row, tripped_in_a_row}
use Rattle.inverse_time.proofs.PlanningLaws.{pick_up}
use Rattle.state.specs.declared.Window.{Window}
use Rattle.state.specs.State.{full}
use Rattle.relay.specs.declared.Answer.TheVariants.{Filling, Measured}
use Rattle.relay.specs.declared.Relay.{Relay}
use Rattle.relay.specs.Record.{fresh}
use Rattle.relay.specs.Calls.{window_after, backup_now, measures_now, reply_now, relay_now, refused_relay, cleared}
use Rattle.relay.specs.Lists.{Call, after, Every}
use Rattle.relay.proofs.Admission.{is_T}
use Rattle.relay.proofs.Kept.{Valid, Step, step, files, declines, clears, reads, resets_by_page, writes, fresh_admissible, valid_after}
use Rattle.relay.proofs.Induction.{Invariant, along, last, any_call}
use Rattle.stability.specs.Timers.{timed_at, curve_at, multiple_at, Course, coursing, course, timer_at, Summed, TimerTripped}
use Rattle.stability.specs.Timers.{BelowPickUp, Unsummed, UntrippedReply, UntrippedCall, NoneTrips}
use Rattle.stability.proofs.Demand2.{Filed, filed_fresh, window_now, filed_kept}

-- ---- demand 2

module _ (v : Setting) (s : T (startable v)) (z : ℕ) where
  -- the timer of the end by the j of its measured sets
  abbrev timer_by : List ℕ → Timer
  timer_by js = cond (timed_at v z) (after_sets (curve_at v) js) idle

  record Coursed (t : Course) (r : Relay) : Type 0 where
    filed : Filed t.sets r
    timer : timer_of r.backup z ≡ timer_by t.multiples

  cleared_timer : timer_of (per_end (λ z. idle)) z ≡ timer_by []
  cleared_timer = timer_idle z ∙ by (timed_at v z)
    where
      by : (b : Bool) → idle ≡ cond b idle idle
      by true = refl
      by false = refl

  coursed_fresh : Coursed (course v z []) (fresh v)
  unfolding fresh
  coursed_fresh = record { filed = filed_fresh v; timer = cleared_timer }

  -- the timer after a set, with the window w
  timer_now : {r : Relay} → Valid v r → (js : List ℕ) → timer_of r.backup z ≡ timer_by js → (w : Window) →
      timer_of (backup_now r w) z ≡ timer_by (cond (full w) (multiple_at v w z ∷ js) js)
  unfolding backup_now backup_by
  timer_now {r} h js k w = by (full w) refl
    where
      grows : (b : Bool) (j : ℕ) → let t = cond b (after_sets (curve_at v) js) idle in
          cond b (timer_after (curve_at v) j t) t ≡ cond b (after_sets (curve_at v) (j ∷ js)) idle
      grows true j = refl
      grows false j = refl

      by : (b : Bool) → full w ≡ b → timer_of (backup_now r w) z ≡ timer_by (cond (full w) (multiple_at v w z ∷ js) js)
      by false e = rw e k
      by true e =
          rw (e, h.same)
          (timer_at_lem v.ends _ _ (largest w.values) r.backup (startable_is v s).limits.four z
          ∙ rw k (grows (timed_at v z) (multiple_at v w z)))

  timer_kept : {t : Course} {r u : Relay} {c : Call} → Valid v r → Coursed t r → Step v r c u → timer_of u.backup z ≡ timer_by (coursing v z t c).multiples
  unfolding relay_now refused_relay cleared
  timer_kept {r = r} h k (files {xs = xs} e o) = rw (e, ← (window_now h k.filed xs)) (timer_now h _ k.timer (window_after r xs))
  timer_kept h k (declines e o) = rw e k.timer
  timer_kept h k (clears o) = cleared_timer
  timer_kept h k (reads o) = k.timer
  timer_kept {t = t} h k (resets_by_page e o) =
      subst (λ (b : Bool). timer_of (per_end (λ z. idle)) z ≡ timer_by (cond b [] t.multiples)) (sym e) cleared_timer
  timer_kept h k (writes e o) = rw e k.timer

  abbrev invariant : Invariant v (λ c. Unit {0})
  invariant =
      record {
        State = Course;
        start = course v z [];
        next = coursing v z;
        Inv = Coursed;
        Shown = λ t r c. Unit {0};
        first = coursed_fresh;
        keeps = λ h k p st. (record { filed = filed_kept h k.filed st; timer = timer_kept h k st }, tt);
      }

  timer_after_calls : (cs : List Call) → timer_at v z cs ≡ timer_by (course v z cs).multiples
  timer_after_calls cs = (last invariant (along invariant s (any_call cs))).1.timer

pub summed : Summed
unfolding Summed SummedInARow
summed v s cs z = rw (timer_after_calls v s z cs) (by (timed_at v z))
  where
    js : List ℕ
    js = (course v z cs).multiples

    by : (b : Bool) → (cond b (after_sets (curve_at v) js) idle).sum ≡ cond b (min most_sum (grown (curve_at v) js)) 0
    by true = summed_in_a_row (curve_at v) js
    by false = refl

pub timer_tripped : TimerTripped
unfolding TimerTripped TrippedInARow
timer_tripped v s cs z = rw (timer_after_calls v s z cs) (by (timed_at v z))
  where
    js : List ℕ
    js = (course v z cs).multiples

    by : (b : Bool) → ((cond b (after_sets (curve_at v) js) idle).trip ≡ true) ↔ (T b × Reached (curve_at v) js)
    by true = let (to, from) = tripped_in_a_row (curve_at v) js in (λ h. (tt, to h), λ h. from h.1)
    by false = (λ h. absurd (true≢false (sym h)), λ h. absurd h.0)

-- ---- no element trips while every A is below 1.1·X

module _ (v : Setting) (s : T (startable v)) where
  below : (z : ℕ) → T (timed_at v z) → (A : ℕ) → 10 * A < 11 * v.overcurrent.pickup → multiple v.overcurrent.pickup A < 11
  unfolding PickUp
  below z t A h =
      let off = eqb v.overcurrent.curve 0 in
      let on = timers_on v s (not-true off (is_true (split (not off) (ltb z v.ends) t).0)) in
      (pick_up v.overcurrent.pickup A (omega (arith, on.pickup))).1 h

  none_now : {r : Relay} → Valid v r → Unsummed r → (w : Window) →
      (T (full w) → (z : ℕ) → T (timed_at v z) → 10 * largest w.values z < 11 * v.overcurrent.pickup) → backup_now r w ≡ per_end (λ z. idle)
  unfolding backup_now backup_by
  none_now {r} h u w low = by (full w) refl
    where
      by : (b : Bool) → full w ≡ b → backup_now r w ≡ per_end (λ z. idle)
      by false e = rw e u
      by true e = rw (e, h.same, u) (idle_kept v.ends _ _ (largest w.values) (λ z t. below z t _ (low (rw e tt) z t)))

  untripped : (r : Relay) (w : Window) → backup_now r w ≡ per_end (λ z. idle) → UntrippedReply (gives (reply_now r w))
  unfolding reply_now
  untripped r w e = by (full w)
    where
      by : (b : Bool) →
          UntrippedReply (gives (cond b (Measured (measures_now r w) (trips_of (backup_now r w))) (Filling w.fill)))
      by true = rw e refl
      by false = tt

  keep : {r t : Relay} {c : Call} → Valid v r → Unsummed r → BelowPickUp v r c → Step v r c t → Unsummed t × UntrippedCall r c
  unfolding relay_now refused_relay cleared
  keep {r = r} h u low (files {xs = xs} e o) =
      let now = none_now h u (window_after r xs) (low (is_T e)) in (now, rw o (untripped r (window_after r xs) now))
  keep h u low (declines e o) = (u, rw o.is tt)
  keep h u low (clears o) = (refl, tt)
  keep h u low (reads o) = (u, tt)
  keep h u low (resets_by_page e o) = (refl, tt)
  keep h u low (writes e o) = (u, tt)

  from : {r : Relay} → Valid v r → Unsummed r → (cs : List Call) → Every (λ r. Unit {0}) (BelowPickUp v) r cs → Every Unsummed UntrippedCall r cs
  from h u [] low = u
  from {r = r} h u (c ∷ cs) (x, (low, lows)) =
      let k = keep h u low (step h c) in (u, (k.1, from {r = after r c} (valid_after h c) k.0 cs lows))

pub none_trips : NoneTrips
unfolding NoneTrips fresh
none_trips v s cs low = from v s (record { ok = fresh_admissible v s; same = refl }) refl cs low
