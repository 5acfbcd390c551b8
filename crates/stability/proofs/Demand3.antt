-- Demand 3. The sets of a healthy bank are filed with sums over the ends within 13·E. From a window of twelve such sets D is at most 45, 69 or 91, so
-- nothing starts and nothing counts, whatever R, H2, H5 and the blocking are. The invariant: the window is that of the last twelve sets filed
-- (Demand2.antt), each set filed is close, and no latch is set, nor a flag of a start or trip. And from demand 3, that a list of calls which trips is not
-- that of a healthy bank.
use mathlib.Core.Path.{◌≡◌, ◌∙◌, refl, sym, ap}
use mathlib.Core.Bool.{false, Bool, true, not, ◌||◌, cond, true≢false}
use mathlib.Core.List.{List, [], ◌∷◌}
use Prim.Native.Nat.{ℕ, ◌+◌, ◌*◌, ◌/◌, ◌%◌, ◌≤◌, ◌<◌}
use native.Mathlib.Omega.{arith}
use lib.Dec.{T, leb, eqb}
use borrow.Author.Tests.{lt-ltb, eqb-true}
use lib.IntN.{ℤ, pos}
use lib.ListN.{length}
use Rattle.integer.specs.Within.{◌within◌}
use Rattle.integer.specs.Sum.{sum}
use Rattle.lists.specs.Tests.{Each, none, ◌&◌}
use Rattle.integer.proofs.Reading.{ints}
use Rattle.integer.proofs.Laws.{within_is, within-≤}
use Rattle.integer.proofs.SumLaws.{sum_same, sum_within_lem}
use Rattle.lists.proofs.TestLaws.{each_get, each_append}
use Rattle.lists.proofs.Places.{get_or_up_to, flat_at}
use Rattle.refusal.specs.Refusals.{◌when◌, first_of, first_refusal}
use Rattle.setting.specs.declared.Setting.{Setting}
use Rattle.setting.specs.Values.{startable}
use Rattle.setting.specs.Worked.{plain}
use Rattle.setting.proofs.LimitLaws.{startable_is}
use Rattle.matching.specs.Sets.{System, sys_a, sys_b, sys_c, index, system, matched_at, numbers, number_at}
use Rattle.matching.specs.Bank.{Healthy, total, TotalBound}
use Rattle.amplitude.specs.Peak.{peak, PeakBound}
use Rattle.amplitude.proofs.PeakLaws.{peak_small, peak_bound}
use Rattle.characteristic.specs.Characteristic.{counts}
use Rattle.characteristic.specs.Bound.{QuietBound}
use Rattle.characteristic.proofs.Bound.{quiet_bound}
use Rattle.measuring.specs.Window.{sums}
use Rattle.measuring.specs.Measuring.{differential, start, blocked, reading_of, readings_of}
use Rattle.state.specs.declared.Window.{Window}
use Rattle.overcurrent.specs.Ends.{trips_of}
use Rattle.state.specs.State.{element_of, per_system, clear, latches_of, full}
use Rattle.bits.specs.declared.Bits.{Bits}
use Rattle.bits.specs.Bits.{bits_of}
use Rattle.page.specs.Events.{new_flags, refused_set, raised, written}
use Rattle.page.specs.Page.{starts_of, nothing}
use Rattle.page.proofs.EventLaws.{no_bit, raised_none, raised_flags, written_lower}
use Rattle.state.proofs.Elements.{per_system_lem, no_latch_after}
use Rattle.relay.specs.Calls.{accepted, counting, element_now, trip_now, measure_now, measures_now, reply_now, starts_by, flags_now, events_now, relay_now, refused_relay}
use Rattle.relay.specs.declared.Answer.TheVariants.{Filling, Measured}
use Rattle.relay.specs.Calls.{backup_now, cleared}
use Rattle.relay.specs.Page.{beyond, fixed}
use Rattle.matching.proofs.Total.{total_bound}
use Rattle.relay.proofs.Ready.{reach}
use Rattle.relay.specs.declared.Relay.{Relay}
use Rattle.relay.specs.Record.{fresh, with_events}
use Rattle.relay.specs.Lists.{Call}
use Rattle.relay.proofs.Admission.{is_T, admitted}
use Rattle.relay.proofs.Kept.{Valid, Step, files, declines, clears, reads, resets_by_page, writes}
use Rattle.relay.proofs.Cases.{not_12}
use Rattle.relay.proofs.Induction.{Invariant, along, last, every}
use Rattle.stability.specs.Lists.{last12, window_of, filing}
use Rattle.stability.proofs.Filing.{Twelve, each_last12}
use Rattle.stability.specs.Stability.{HealthyCall, Calm, CalmReply, CalmCall, Without12, Still, Stability}
use Rattle.stability.specs.Example.{latch_after, tripped, fault, fault_trips, FaultUnhealthy}
use Rattle.stability.proofs.Demand2.{Filed, filed_fresh, window_now, filed_kept}

-- the sums over the ends are small
abbrev Close : Setting → List ℤ → Type 0
Close v ns = (l : System) → sum v.ends (λ z. number_at ns z l) within (13 * v.ends)

record Quiet (v : Setting) (ws : List (List ℤ)) (r : Relay) : Type 0 where
  filed : Filed ws r
  close : Each (Close v) ws
  still : Still r

-- the window that holds the last twelve
abbrev held : List (List ℤ) → Window
held ws = window_of (last12 ws)

close_none : (v : Setting) → Close v []
close_none v l = within-≤ (sum_within_lem 0 v.ends (λ z. pos 0) (λ k h. simp ints (omega arith))) (omega arith)

index_system : (z : ℕ) (l : System) → system ((3 * z + index l) % 3) ≡ l
index_system z sys_a = let e : (3 * z + 0) % 3 ≡ 0 = omega arith in rw e
index_system z sys_b = let e : (3 * z + 1) % 3 ≡ 1 = omega arith in rw e
index_system z sys_c = let e : (3 * z + 2) % 3 ≡ 2 = omega arith in rw e

pub index_small : (l : System) → index l < 3
index_small sys_a = omega arith
index_small sys_b = omega arith
index_small sys_c = omega arith

none_latched : (l : System) → (element_of (per_system (λ l. clear)) l).latch ≡ false
none_latched = per_system_lem (λ e. e.latch ≡ false) (λ l. clear) (λ l. refl)

module _ (v : Setting) (s : T (startable v)) where
  -- ---- the sets filed

  -- what stands in a place
  pub number_at_lem : (xs : List ℤ) (z : ℕ) (l : System) → z < v.ends → number_at (numbers v xs) z l ≡ matched_at v xs z l
  unfolding numbers
  number_at_lem xs z l h =
      let i = index_small l in
      let e : (3 * z + index l) / 3 ≡ z = omega arith in
      get_or_up_to 12 _ (3 * z + index l) (pos 0) (omega (arith, (startable_is v s).limits.four))
      ∙ rw (e, index_system z l, lt-ltb z v.ends h)

  numbers_close : (xs : List ℤ) → T (accepted v xs) → Healthy v xs → Close v (numbers v xs)
  unfolding total TotalBound
  numbers_close xs t hy l =
      within_is (sum_same (λ z. number_at (numbers v xs) z l) (λ z. matched_at v xs z l) v.ends (λ z h. number_at_lem xs z l h))
      (total_bound v s xs (reach v xs t) hy l)

  module _ {ws : List (List ℤ)} (twelves : Each Twelve ws) (close : Each (Close v) ws) where
    -- a full window of close sets
    module _ (f : full (held ws) ≡ true) (l : System) where
      sums_close : (k : ℕ) → k < 12 → sums v.ends (held ws).values l k within (13 * v.ends)
      unfolding window_of
      sums_close k h =
          let four = (startable_is v s).limits.four in
          let at : k < length (last12 ws) = omega (arith, eqb-true (length (last12 ws)) 12 f) in
          within_is (sum_same _ _ v.ends (λ z j. flat_at (each_last12 twelves) _ k (3 * z + index l) (pos 0) at (omega (arith, index_small l))))
          (each_get (each_last12 close) (close_none v) k l)

      d_small : differential v (held ws).values l ≤ peak v.ends
      unfolding PeakBound
      d_small = let g = (startable_is v s).limits in peak_bound v.ends g.two g.four _ sums_close

      quiet_system : let win = (held ws).values in (start v win l ≡ false) × (counts v (differential v win l) (start v win l) (blocked v win l) ≡ false)
      unfolding QuietBound
      quiet_system =
          let g = startable_is v s in
          let few : differential v (held ws).values l ≤ 91 = omega (arith, d_small, peak_small v.ends g.limits.four) in
          quiet_bound v g.basic.least g.high.least _ few _ (blocked v (held ws).values l)

    -- a set filed among them: no system counts, whether or not the window is full
    module _ {r : Relay} (h : Valid v r) (still : Still r) where
      counting_no : (l : System) → counting v (held ws) l ≡ false
      counting_no l = by (full (held ws)) refl
        where
          by : (b : Bool) → full (held ws) ≡ b → counting v (held ws) l ≡ false
          by false e = rw e
          by true e = rw (e, (quiet_system e l).1)

      latch_no : (l : System) → (element_now r (held ws) l).latch ≡ false
      latch_no l = rw h.same (no_latch_after v.confirm (element_of r.trip l) (counting_no l) (still.no_latch l))

      -- no start is new, and no trip
      starts_none : starts_by r (held ws) ≡ no_bit
      unfolding readings_of reading_of
      starts_none = rw h.same (by (full (held ws)) refl)
        where
          by : (b : Bool) → full (held ws) ≡ b → starts_of (cond b (readings_of v (held ws).values) nothing) ≡ no_bit
          by false e = refl
          by true e = λ i. record { b0 = (quiet_system e sys_a).0 i; b1 = (quiet_system e sys_b).0 i; b2 = (quiet_system e sys_c).0 i }

      latches_none : latches_of (trip_now r (held ws)) ≡ no_bit
      latches_none = λ i. record { b0 = latch_no sys_a i; b1 = latch_no sys_b i; b2 = latch_no sys_c i }

      none_new : flags_now r (held ws) ≡ no_bit
      none_new = λ i. new_flags (starts_by r r.window) (starts_none i) (latches_of r.trip) (latches_none i)

      -- so the events stay as they were
      events_same : events_now r (held ws) ≡ r.events
      events_same = ap (λ (b : Bits). raised b r.events) none_new ∙ raised_none r.events (admitted r h.ok 4)

      still_now : Still (relay_now r (held ws))
      unfolding relay_now
      still_now =
          record {
            no_latch = per_system_lem (λ e. e.latch ≡ false) (element_now r (held ws)) latch_no;
            no_start_flag = rw events_same still.no_start_flag;
            no_trip_flag = rw events_same still.no_trip_flag;
          }

      calm : full (held ws) ≡ true → (l : System) → Calm v (measure_now r (held ws) l)
      unfolding reading_of
      calm f l = record { no_start = rw h.same (quiet_system f l).0; no_latch = latch_no l; small_d = rw h.same (d_small f l) }

      calm_reply : CalmReply v (reply_now r (held ws))
      unfolding reply_now
      calm_reply = by (full (held ws)) refl
        where
          by : (b : Bool) → full (held ws) ≡ b →
              CalmReply v (cond b (Measured (measures_now r (held ws)) (trips_of (backup_now r (held ws)))) (Filling (held ws).fill))
          by false e = tt
          by true e = (calm e sys_a, calm e sys_b, calm e sys_c)

  -- ---- each call, and the list

  -- a refused set raises its own flag alone, and a write none
  still_refused : {r : Relay} → Still r → Still (refused_relay r)
  unfolding refused_relay
  still_refused {r} q =
      let flags = raised_flags refused_set r.events in
      record { no_latch = q.no_latch; no_start_flag = rw (flags, q.no_start_flag); no_trip_flag = rw (flags, q.no_trip_flag) }

  still_written : {r : Relay} → Still r → (o x : ℕ) → Still (with_events r (written o x r.events))
  still_written {r} q o x =
      let flags = (written_lower o x r.events).is in
      record { no_latch = q.no_latch; no_start_flag = rw (flags, q.no_start_flag); no_trip_flag = rw (flags, q.no_trip_flag) }

  still_cleared : {r : Relay} → Still r → Still (cleared r)
  unfolding cleared
  still_cleared q = record { no_latch = none_latched; no_start_flag = q.no_start_flag; no_trip_flag = q.no_trip_flag }

  -- a read or write is not declined with 12
  read_calm : (o b : ℕ) → Without12 (λ n. Unit {0}) (first_of (beyond o ∷ []) b)
  read_calm o b = by (leb 64 o)
    where
      by : (t : Bool) → Without12 (λ n. Unit {0}) (first_of ((15 when t) ∷ []) b)
      by true = λ e. omega arith
      by false = tt

  write_calm : (o : ℕ) → Without12 (λ n. Unit {0}) (first_refusal (beyond o ∷ fixed o ∷ []))
  write_calm o = by (leb 64 o) (not (eqb o 3 || (eqb o 4 || eqb o 7)))
    where
      by : (t u : Bool) → Without12 (λ n. Unit {0}) (first_refusal ((15 when t) ∷ (16 when u) ∷ []))
      by true u = λ e. omega arith
      by false true = λ e. omega arith
      by false false = tt

  keeps : {ws : List (List ℤ)} {r t : Relay} {c : Call} → Valid v r → Quiet v ws r → HealthyCall v c → Step v r c t → Quiet v (filing v ws c) t × CalmCall v r c
  keeps h q hc (files {xs = xs} e o) =
      let now = window_now h q.filed xs in
      let filed = rw e at (filed_kept h q.filed (files e o)) in
      let close = each_append q.close (numbers_close xs (is_T e) (hc (is_T e)) & none) in (
        rw e (record { filed = filed; close = close; still = rw now (still_now filed.twelves close h q.still) }),
        rw (o, now) (calm_reply filed.twelves close h q.still),
      )
  keeps h q hc (declines e o) =
      let filed = rw e at (filed_kept h q.filed (declines e o)) in
      (rw e (record { filed = filed; close = q.close; still = still_refused q.still }), rw o.is (not_12 o))
  keeps h q hc (clears o) = (record { filed = filed_kept h q.filed (clears o); close = q.close; still = still_cleared q.still }, rw o tt)
  keeps h q hc (reads {o = o} a) = (q, rw a (read_calm o _))
  keeps h q hc (resets_by_page {o = o} {x = x} e a) =
      (record { filed = filed_kept h q.filed (resets_by_page {x = x} e a); close = q.close; still = still_cleared q.still }, rw a (write_calm o))
  keeps h q hc (writes {o = o} {x = x} e a) =
      (record { filed = filed_kept h q.filed (writes {x = x} e a); close = q.close; still = still_written q.still o x }, rw a (write_calm o))

  quiet_fresh : Quiet v [] (fresh v)
  unfolding fresh bits_of
  quiet_fresh = record { filed = filed_fresh v; close = none; still = record { no_latch = none_latched; no_start_flag = refl; no_trip_flag = refl } }

  abbrev invariant : Invariant v (HealthyCall v)
  invariant = record { State = _; start = []; next = filing v; Inv = Quiet v; Shown = λ ws. CalmCall v; first = quiet_fresh; keeps = keeps }

pub stability : Stability
unfolding Stability
stability v s cs hs = every (invariant v s) (λ ws r q. q.still) (λ ws r c k. k) (along (invariant v s) s hs)

pub fault_unhealthy : FaultUnhealthy
unfolding FaultUnhealthy latch_after tripped
fault_unhealthy hs =
    let s : startable plain ≡ true = cc fault_trips in
    let trips : latch_after plain fault sys_a ≡ true = cc fault_trips in
    let I = invariant plain (is_T s) in
    let none : latch_after plain fault sys_a ≡ false = (last I (along I (is_T s) hs)).1.still.no_latch sys_a in
    true≢false (sym trips ∙ none)
