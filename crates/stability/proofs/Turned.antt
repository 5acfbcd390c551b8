-- Turning (card 1). A record is turned where its matched numbers are negated. A turned record files the turned set as the record files the set: the
-- matched numbers of the set are negated (Negated.antt of matching), and what is measured of the window is the same (that of measuring). So a call keeps
-- the record turned, and answers alike; a fresh record is turned to itself.
use mathlib.Core.Path.{◌≡◌, refl, ap, sym, subst, ◌∙◌}
use mathlib.Core.Bool.{Bool, true, false, ◌&&◌, cond}
use mathlib.Core.List.{List, [], ◌∷◌, ◌++◌, map, map-append}
use Prim.Native.Nat.{ℕ, zero, suc, ◌+◌, ◌*◌}
use native.Mathlib.Omega.{arith}
use lib.Dec.{leb, ltb}
use lib.IntN.{ℤ, pos, negsuc, neg_ℤ, nat_abs}
use lib.ListN.{take, drop, length-map}
use Rattle.integer.specs.Within.{eq_z}
use Rattle.integer.proofs.Reading.{ints, ◌⇒◌}
use Rattle.integer.proofs.Laws.{nat_abs_neg, eq_z→≡}
use Rattle.lists.specs.Tests.{each}
use Rattle.lists.proofs.TestLaws.{is_false}
use Rattle.lists.proofs.Maps.{map_take, map_drop}
use Rattle.refusal.specs.Refusals.{Told, Outcome, gives, declines, by_outcome, none_applies}
use Rattle.setting.specs.declared.Setting.{Setting}
use Rattle.matching.specs.Sets.{System, sys_a, sys_b, sys_c, numbers}
use Rattle.matching.proofs.Negated.{numbers_negated}
use Rattle.amplitude.specs.Amplitude.{order}
use Rattle.amplitude.proofs.Negated.{cycle_negated}
use Rattle.characteristic.specs.Characteristic.{counts}
use Rattle.measuring.specs.declared.Reading.{Reading}
use Rattle.measuring.specs.Measuring.{reading_of, readings_of}
use Rattle.measuring.proofs.Negated.{series_negated, sums_negated, difference_negated, reading_same}
use Rattle.overcurrent.specs.Ends.{backup_after}
use Rattle.overcurrent.specs.Watching.{backup_by}
use Rattle.overcurrent.proofs.Negated.{largest_same}
use Rattle.state.specs.declared.Window.{Window}
use Rattle.state.specs.State.{number_within, after_held, at_end, window_with, full}
use Rattle.relay.specs.declared.Relay.{Relay}
use Rattle.page.specs.Events.{written as written_events}
use Rattle.page.specs.Page.{shown}
use Rattle.relay.specs.Record.{fresh, admissible, with_events}
use Rattle.relay.specs.Calls.{set_rows, sample_rows, window_after, counting, measure_now, backup_now, reply_now, events_now, relay_now, refused_relay, of_set, left_at}
use Rattle.relay.specs.Calls.{sample_reply, sample_relay}
use Rattle.relay.specs.Calls.{reset_rows, cleared, reset_reply, reset_relay}
use Rattle.relay.specs.Page.{read_rows, read_reply, write_rows, resets, written, write_reply, write_relay}
use Rattle.relay.specs.Lists.{Call, sample, reset, read, write, after, run}
use Rattle.relay.proofs.Admission.{admitted}
use Rattle.relay.proofs.Kept.{Valid, fresh_admissible, valid_after}
use Rattle.stability.specs.Turning.{negated, turned_call, turned_relay, CyclesNegated, Turned, Turning}

-- ---- the tests of a set and of a record

each_negated : (t : ℤ → Bool) → ((x : ℤ) → t (neg_ℤ x) ≡ t x) → (xs : List ℤ) → each t (negated xs) ≡ each t xs
each_negated t same [] = refl
each_negated t same (x ∷ xs) = rw (same x, each_negated t same xs)

size_same : (n : ℕ) (x : ℤ) → leb (nat_abs (neg_ℤ x)) n ≡ leb (nat_abs x) n
size_same n x = rw (nat_abs_neg x)

not_zero : (n : ℕ) → eq_z (pos (suc n)) (pos 0) ≡ false
not_zero n = is_false (λ h. eq_z→≡ (pos (suc n)) (pos 0) h ⇒ simp ints (omega arith))

zero_same : (x : ℤ) → eq_z (neg_ℤ x) (pos 0) ≡ eq_z x (pos 0)
unfolding eq_z
zero_same (pos zero) = refl
zero_same (pos (suc n)) = sym (not_zero n)
zero_same (negsuc n) = not_zero n

rows_same : (v : Setting) (xs : List ℤ) → set_rows v (negated xs) ≡ set_rows v xs
unfolding set_rows
rows_same v xs =
    rw (length-map xs neg_ℤ, each_negated (λ x. leb (nat_abs x) 32000) (size_same 32000) xs, ← map_drop neg_ℤ (3 * v.ends) xs)
    (rw (each_negated (λ x. eq_z x (pos 0)) zero_same (drop (3 * v.ends) xs)))

turned_admissible : (r : Relay) → admissible (turned_relay r) ≡ admissible r
unfolding admissible
turned_admissible r = rw (each_negated number_within (size_same 800000) r.window.values)

-- ---- the window after a set

abbrev turned_window : Window → Window
turned_window w = record { values = negated w.values; fill = w.fill }

filed_turned : (w : Window) (ns : List ℤ) → window_with (turned_window w) (negated ns) ≡ turned_window (window_with w ns)
unfolding window_with
filed_turned w ns = by (ltb w.fill 12)
  where
    by : (b : Bool) →
        cond b (after_held (turned_window w) (negated ns)) (at_end (turned_window w) (negated ns)) ≡ turned_window (cond b (after_held w ns) (at_end w ns))
    by true =
        let vs = w.values in
        let k = 12 * w.fill in
        rw (map-append neg_ℤ (take k vs) (ns ++ drop (k + 12) vs), map-append neg_ℤ ns (drop (k + 12) vs), map_take neg_ℤ k vs, map_drop neg_ℤ (k + 12) vs)
    by false = rw (map-append neg_ℤ (drop 12 w.values) ns, map_drop neg_ℤ 12 w.values)

-- ---- what a set gives

shown_same : (v : Setting) (w : Window) → shown v (turned_window w) ≡ shown v w
unfolding readings_of
shown_same v w = rw (reading_same v w.values sys_a, reading_same v w.values sys_b, reading_same v w.values sys_c)

module _ (r : Relay) (w : Window) where
  counting_same : (l : System) → counting r.setting (turned_window w) l ≡ counting r.setting w l
  unfolding reading_of
  counting_same l = ap (λ (m : Reading). full w && counts r.setting m.d m.start m.blocked) (reading_same r.setting w.values l)

  measure_same : (l : System) → measure_now (turned_relay r) (turned_window w) l ≡ measure_now r w l
  measure_same l = rw (reading_same r.setting w.values l, counting_same l)

  backup_same : backup_now (turned_relay r) (turned_window w) ≡ backup_now r w
  unfolding backup_now backup_by
  backup_same =
      let o = r.setting.overcurrent in
      ap (λ (A : ℕ → ℕ). cond (full w) (backup_after r.setting.ends o.curve o.pickup A r.backup) r.backup)
      (λ i z. largest_same w.values z i)

  reply_same : reply_now (turned_relay r) (turned_window w) ≡ reply_now r w
  unfolding reply_now
  reply_same = rw (measure_same sys_a, measure_same sys_b, measure_same sys_c, backup_same)

  events_same : events_now (turned_relay r) (turned_window w) ≡ events_now r w
  events_same =
      rw (shown_same r.setting r.window, shown_same r.setting w, counting_same sys_a, counting_same sys_b, counting_same sys_c)

  now_turned : relay_now (turned_relay r) (turned_window w) ≡ turned_relay (relay_now r w)
  unfolding relay_now
  now_turned = rw (events_same, counting_same sys_a, counting_same sys_b, counting_same sys_c, backup_same)

-- ---- one call

-- the record that a call leaves, by its outcome
left_turned : {A : Type 0} (o : Outcome A) (f : Told → Relay) (s : Relay) → by_outcome o (λ n. turned_relay (f n)) (λ a. turned_relay s) ≡ turned_relay (by_outcome o f (λ a. s))
left_turned (gives a) f s = refl
left_turned (declines n) f s = refl

refused_turned : (r : Relay) (n : Told) → left_at (turned_relay r) n ≡ turned_relay (left_at r n)
unfolding refused_relay
refused_turned r n = by (of_set n)
  where
    by : (b : Bool) → cond b (refused_relay (turned_relay r)) (turned_relay r) ≡ turned_relay (cond b (refused_relay r) r)
    by true = refl
    by false = refl

module _ (r : Relay) (adm : admissible r ≡ true) (xs : List ℤ) where
  window_turned : window_after (turned_relay r) (negated xs) ≡ turned_window (window_after r xs)
  window_turned = rw (numbers_negated r.setting (admitted r adm 0) xs) (filed_turned r.window (numbers r.setting xs))

  sample_same : sample_reply (turned_relay r) (negated xs) ≡ sample_reply r xs
  unfolding sample_rows
  sample_same = rw (turned_admissible r, rows_same r.setting xs, window_turned, reply_same r (window_after r xs))

  sample_turned : sample_relay (turned_relay r) (negated xs) ≡ turned_relay (sample_relay r xs)
  sample_turned =
      let w = window_after r xs in
      rw (sample_same, window_turned, now_turned r w)
      (ap (λ (f : Told → Relay). by_outcome (sample_reply r xs) f (λ a. turned_relay (relay_now r w))) (λ i n. refused_turned r n i)
      ∙ left_turned (sample_reply r xs) (left_at r) (relay_now r w))

module _ (r : Relay) where
  reset_same : reset_reply (turned_relay r) ≡ reset_reply r
  unfolding reset_rows
  reset_same = rw (turned_admissible r)

  reset_turned : reset_relay (turned_relay r) ≡ turned_relay (reset_relay r)
  unfolding cleared
  reset_turned = rw reset_same (left_turned (reset_reply r) (λ n. r) (cleared r))

  -- the register page
  read_same : (o : ℕ) → read_reply (turned_relay r) o ≡ read_reply r o
  unfolding read_rows
  read_same o = rw (turned_admissible r, shown_same r.setting r.window)

  write_same : (o : ℕ) → write_reply (turned_relay r) o ≡ write_reply r o
  unfolding write_rows
  write_same o = rw (turned_admissible r)

  written_turned : (o x : ℕ) → written (turned_relay r) o x ≡ turned_relay (written r o x)
  unfolding written cleared
  written_turned o x = by (resets o x)
    where
      by : (b : Bool) → cond b (cleared (turned_relay r)) (with_events (turned_relay r) (written_events o x r.events)) ≡
          turned_relay (cond b (cleared r) (with_events r (written_events o x r.events)))
      by true = refl
      by false = refl

  write_turned : (o x : ℕ) → write_relay (turned_relay r) o x ≡ turned_relay (write_relay r o x)
  write_turned o x = rw (write_same o, written_turned o x) (left_turned (write_reply r o) (λ n. r) (written r o x))

turned_after : {v : Setting} {r : Relay} → Valid v r → (c : Call) → after (turned_relay r) (turned_call c) ≡ turned_relay (after r c)
turned_after {r = r} h (sample xs) = sample_turned r h.ok xs
turned_after {r = r} h reset = reset_turned r
turned_after {r = r} h (read o) = refl
turned_after {r = r} h (write o x) = write_turned r o x

-- ---- the list

cycles : {u w : ℕ → ℤ} → ((k : ℕ) → u k ≡ neg_ℤ (w k)) → CyclesNegated u w
cycles {u} {w} e = record { c = λ h. cycle_negated u w (λ k l. e k) (order h) 0; s = λ h. cycle_negated u w (λ k l. e k) (order h) 9 }

turned_now : {v : Setting} {r : Relay} → Valid v r → Turned v r (turned_relay r)
turned_now {v} {r} h =
    let win = r.window.values in
    record {
      relay = refl;
      of_sums = λ l. cycles (sums_negated win v.ends l);
      of_difference = λ l. cycles (difference_negated win l);
      of_end = λ z l. cycles (series_negated win z l);
      same_sets = λ xs. ap none_applies (rows_same v xs);
      same_answer = sample_same r h.ok;
      same_reset = reset_same r;
      same_read = read_same r;
      same_write = write_same r;
    }

turned_run : {v : Setting} {r : Relay} → Valid v r → (cs : List Call) → Turned v (run r cs) (run (turned_relay r) (map turned_call cs))
turned_run h [] = turned_now h
turned_run {v} {r} h (c ∷ cs) =
    subst (λ (t : Relay). Turned v (run (after r c) cs) (run t (map turned_call cs))) (sym (turned_after h c))
    (turned_run {v = v} {r = after r c} (valid_after h c) cs)

pub turning : Turning
unfolding Turning fresh
turning v s cs = turned_run (record { ok = fresh_admissible v s; same = refl }) cs
