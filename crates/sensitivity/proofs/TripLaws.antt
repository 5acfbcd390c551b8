-- Which faults trip. A call that measures a fault files an accepted set at which the system counts; so M of them in a row put M sets in a row that counted
-- at the newest end of the trail, and the system is latched (`Latched`, of crate `stability`). What comes later only adds to the trail, until a reset.
use mathlib.Core.Path.{◌≡◌, refl, sym, ap, ◌∙◌}
use mathlib.Core.Bool.{Bool, true, false, not, ◌&&◌, cond, and-false, or-true, true≢false}
use mathlib.Core.List.{List, [], ◌∷◌, ◌++◌, foldl}
use Prim.Native.Nat.{ℕ, zero, suc}
use native.Mathlib.Omega.{arith}
use lib.Dec.{T}
use lib.IntN.{ℤ}
use lib.ListN.{length, replicate}
use borrow.Author.Tests.{lt-ltb}
use Rattle.lists.specs.Tests.{Each, none, ◌&◌}
use Rattle.refusal.specs.Refusals.{gives}
use Rattle.setting.specs.declared.Setting.{Setting}
use Rattle.setting.specs.Values.{startable}
use Rattle.matching.specs.Sets.{System, sys_a, sys_b, sys_c}
use Rattle.characteristic.specs.Characteristic.{second_on, fifth_on, common_on, has_harmonics, holds_back, counts}
use Rattle.measuring.specs.Measuring.{differential, start, harmonics, holding, blocked, reading_of}
use Rattle.state.specs.declared.Window.{Window}
use Rattle.state.specs.State.{full}
use Rattle.state.specs.Rows.{InARow}
use Rattle.state.proofs.RowLaws.{at_older}
use Rattle.overcurrent.specs.Ends.{trips_of}
use Rattle.relay.specs.declared.Measure.{Measure}
use Rattle.relay.specs.declared.Answer.{Answer}
use Rattle.relay.specs.declared.Answer.TheVariants.{Filling, Measured}
use Rattle.relay.specs.declared.Relay.{Relay}
use Rattle.relay.specs.Calls.{accepted, counting, window_after, measures_now, backup_now, reply_now, relay_now, sample_reply}
use Rattle.relay.specs.Page.{resets}
use Rattle.relay.specs.Lists.{Call, sample, reset, read, write, after, Every}
use Rattle.relay.proofs.Kept.{Valid, Step, files, declines, step, valid_after}
use Rattle.stability.specs.Lists.{filing, last12, window_of}
use Rattle.stability.specs.Trips.{Trail, trailing, trail, Latched}
use Rattle.stability.proofs.Demand2.{window_now}
use Rattle.stability.proofs.TripLaws.{Traced, traced_kept, traced, latched}
use Rattle.sensitivity.specs.OneEnd.{OneEndStarts}
use Rattle.sensitivity.specs.Trips.{OneEndFault, UnblockedFault, HighSetFault, of_system, MeasuredAs, Measures, LatchedAfter, OneEndTrips, BlockingOffTrips, HighSetTrips, resetting, StaysLatched}
use Rattle.sensitivity.proofs.Starting.{one_end_starts}

-- ---- one call that measures a fault

-- a system that measures such a fault counts
abbrev Counting : Setting → (Fault : System → List ℤ → Measure → Type 0) → Type 0
Counting v Fault =
    (l : System) (win : List ℤ) (m : Measure) → m.reading ≡ reading_of v win l → Fault l win m →
    counts v (differential v win l) (start v win l) (blocked v win l) ≡ true

reading_is : {v : Setting} (r : Relay) (w : Window) → r.setting ≡ v → (l : System) →
    (of_system (measures_now r w) l).reading ≡ reading_of v w.values l
reading_is r w same sys_a = rw same
reading_is r w same sys_b = rw same
reading_is r w same sys_c = rw same

one_more : (n : ℕ) (bs : List Bool) → replicate n true ++ (true ∷ bs) ≡ true ∷ (replicate n true ++ bs)
one_more zero bs = refl
one_more (suc n) bs = ap (λ (t : List Bool). true ∷ t) (one_more n bs)

module _ (v : Setting) (Fault : System → List ℤ → Measure → Type 0) (sure : Counting v Fault) (l : System) where
  measured_counts : (r : Relay) (w : Window) → r.setting ≡ v → MeasuredAs (Fault l w.values) l (gives (reply_now r w)) → counting v w l ≡ true
  unfolding reply_now
  measured_counts r w same m = by (full w) refl m
    where
      answer : Bool → Answer
      answer b = cond b (Measured (measures_now r w) (trips_of (backup_now r w))) (Filling w.fill)

      by : (b : Bool) → full w ≡ b → MeasuredAs (Fault l w.values) l (gives (answer b)) → counting v w l ≡ true
      by true e m = rw e (sure l w.values _ (reading_is r w same l) m)
      by false e m = absurd m

  sampled_now : {t : Trail} {r s : Relay} {xs : List ℤ} → Valid v r → Traced v l t r → Step v r (sample xs) s →
      MeasuredAs (Fault l s.window.values) l (sample_reply r xs) → (trailing v l t (sample xs)).counted ≡ true ∷ t.counted
  unfolding relay_now
  sampled_now {t = t} {r = r} {s = s} {xs = xs} h k done m = by xs s done m
    where
      by : (xs : List ℤ) (s : Relay) → Step v r (sample xs) s → MeasuredAs (Fault l s.window.values) l (sample_reply r xs) →
          (trailing v l t (sample xs)).counted ≡ true ∷ t.counted
      by xs s (files e o) m = rw (e, sym (window_now h k.filed xs), measured_counts r (window_after r xs) h.same (rw o at m))
      by xs s (declines e o) m = absurd (rw o.is at m)

  counted_now : {t : Trail} {r : Relay} → Valid v r → Traced v l t r → (c : Call) → Measures (Fault l) l r c →
      (trailing v l t c).counted ≡ true ∷ t.counted
  counted_now h k (sample xs) m = sampled_now h k (step h (sample xs)) m
  counted_now h k reset m = absurd m
  counted_now h k (read o) m = absurd m
  counted_now h k (write o x) m = absurd m

  -- ---- calls one after another

  row : {t : Trail} {r : Relay} → Valid v r → Traced v l t r → (faults : List Call) → Every (λ r. Unit {0}) (Measures (Fault l) l) r faults →
      (foldl (trailing v l) t faults).counted ≡ replicate (length faults) true ++ t.counted
  row h k [] e = refl
  row {t = t} {r = r} h k (c ∷ cs) e =
      row {t = trailing v l t c} {r = after r c} (valid_after h c) (traced_kept v l h k (step h c)) cs e.1.1
      ∙ ap (λ (bs : List Bool). replicate (length cs) true ++ bs) (counted_now h k c e.1.0)
      ∙ one_more (length cs) t.counted

trail-++ : (v : Setting) (l : System) (t : Trail) (cs ds : List Call) →
    foldl (trailing v l) t (cs ++ ds) ≡ foldl (trailing v l) (foldl (trailing v l) t cs) ds
trail-++ v l t [] ds = refl
trail-++ v l t (c ∷ cs) ds = trail-++ v l (trailing v l t c) cs ds

trips : (v : Setting) → T (startable v) → (Fault : System → List ℤ → Measure → Type 0) → Counting v Fault → LatchedAfter v Fault
unfolding Latched
trips v s Fault sure before faults l long es =
    let (h, k) = traced v l s before in
    let older = (trail v l before).counted in
    let all : length faults ≡ v.confirm = omega arith in
    let is = ap (λ (t : Trail). t.counted) (trail-++ v l (trail v l []) before faults) ∙ row v Fault sure l h k faults es in
    (latched v s (before ++ faults) l).1 (record { newer = []; older = older; is = is ∙ rw all })

-- ---- faults at which a system counts

fed_starts : (v : Setting) → T (startable v) → (l : System) (win : List ℤ) (m : Measure) → m.reading ≡ reading_of v win l → OneEndFault v l win m →
    start v win l ≡ true
unfolding OneEndStarts reading_of
fed_starts v s l win m e f = (one_end_starts v s win l f.end f.fed).1.1 (rw e at f.above_P)

pub one_end_trips : OneEndTrips
unfolding OneEndTrips reading_of
one_end_trips v s =
    trips v s (UnblockedFault v) (λ l win m e f. let free : blocked v win l ≡ false = rw e at f.not_blocked in rw (fed_starts v s l win m e f.fault, free))

module _ (v : Setting) (no_second : second_on v ≡ false) (no-fifth : fifth_on v ≡ false) (win : List ℤ) where
  no_harmonics : (l : System) → harmonics v win l ≡ false
  unfolding harmonics has_harmonics
  no_harmonics l = rw (no_second, no-fifth)

  none_holds : (l : System) → holding v win l ≡ false
  unfolding holding holds_back has_harmonics
  none_holds l = rw (no_second, no-fifth)

  none_blocked : (l : System) → blocked v win l ≡ false
  unfolding blocked
  none_blocked l = rw (no_harmonics l, none_holds sys_a, none_holds sys_b, none_holds sys_c) (and-false (common_on v))

pub blocking_off_trips : BlockingOffTrips
unfolding BlockingOffTrips
blocking_off_trips v s no_second no-fifth =
    trips v s (OneEndFault v) (λ l win m e f. rw (fed_starts v s l win m e f, none_blocked v no_second no-fifth win l))

pub high_set_trips : HighSetTrips
unfolding HighSetTrips reading_of
high_set_trips v s =
    trips v s (HighSetFault v) (λ l win m e f. rw (lt-ltb v.thresholds.high (differential v win l) (rw e at f)) (or-true (start v win l && not (blocked v win l))))

-- ---- until a reset

module _ (v : Setting) (l : System) where
  row_kept : (t : Trail) (c : Call) → resetting c ≡ false → InARow v.confirm t.counted → InARow v.confirm (trailing v l t c).counted
  row_kept t (sample xs) e r = by (accepted v xs)
    where
      by : (b : Bool) → InARow v.confirm (cond b (counting v (window_of (last12 (filing v t.sets (sample xs)))) l ∷ t.counted) t.counted)
      by true = at_older _ r
      by false = r
  row_kept t reset e r = absurd (true≢false e)
  row_kept t (read o) e r = r
  row_kept t (write o x) e r = by (resets o x) e
    where
      by : (b : Bool) → b ≡ false → InARow v.confirm (cond b [] t.counted)
      by true e = absurd (true≢false e)
      by false e = r

  rows_kept : (t : Trail) (later : List Call) → Each (λ c. resetting c ≡ false) later → InARow v.confirm t.counted →
      InARow v.confirm (foldl (trailing v l) t later).counted
  rows_kept t [] none r = r
  rows_kept t (c ∷ cs) (e & es) r = rows_kept (trailing v l t c) cs es (row_kept t c e r)

pub stays_latched : StaysLatched
unfolding StaysLatched Latched
stays_latched v s cs later l es e =
    (latched v s (cs ++ later) l).1
    (rw (trail-++ v l (trail v l []) cs later) (rows_kept v l (trail v l cs) later es ((latched v s cs l).0 e)))
