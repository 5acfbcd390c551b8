-- The records of a relay started on v: admissible, with v for their setting. A fresh one is so, and each call keeps it so. With such a record a call does
-- one of these things (`Step`): it files an accepted set, declines a set, clears counters and latches, or, at a read or write of the register page,
-- changes the events at most.
use mathlib.Core.Path.{◌≡◌, refl, ◌∙◌}
use mathlib.Core.Bool.{Bool, true, false}
use mathlib.Core.List.{List, [], ◌∷◌}
use Prim.Native.Nat.{ℕ}
use native.Mathlib.Omega.{arith}
use lib.Dec.{T, le→leb}
use lib.IntN.{ℤ}
use lib.ListN.{get_or}
use Rattle.lists.specs.Tests.{hold, none, ◌&◌}
use Rattle.lists.proofs.TestLaws.{is_true}
use Rattle.refusal.specs.Refusals.{gives, first_of, first_refusal}
use Rattle.setting.specs.declared.Setting.{Setting}
use Rattle.setting.specs.Values.{startable}
use Rattle.matching.specs.Sets.{numbers}
use Rattle.state.specs.declared.Window.{Window}
use Rattle.state.specs.State.{element_of, per_system, clear, counters_within, full}
use Rattle.state.proofs.Placed.{sized_test, window_with_fill}
use Rattle.state.proofs.Elements.{counters_test, element-≤}
use Rattle.relay.specs.declared.Relay.{Relay}
use Rattle.overcurrent.specs.Ends.{sums_within}
use Rattle.overcurrent.specs.Watching.{backup_by}
use Rattle.overcurrent.proofs.BackupLaws.{within_after, within_idle}
use Rattle.page.specs.declared.Events.{Events}
use Rattle.page.specs.Events.{within, written as written_events}
use Rattle.page.proofs.EventLaws.{raised_within, written_within}
use Rattle.relay.specs.Record.{fresh, admissions, admissible, with_events}
use Rattle.relay.specs.Calls.{accepted, window_after, element_now, backup_now, reply_now, relay_now, refused_relay, sample_reply, sample_relay, reset_reply, cleared}
use Rattle.relay.specs.Page.{page_of, beyond, fixed, read_reply, resets, write_reply, write_relay}
use Rattle.relay.specs.Lists.{Call, sample, reset, read, write, after}
use Rattle.relay.proofs.Admission.{is_T, admitted, admissible_of_lem}
use Rattle.relay.proofs.Cases.{Other, other_leaves, sample_gives, sample_declines, reset_leaves, reset_gives, read_reply_lem, write_reply_lem, write_resets, write_leaves_lem}
use Rattle.relay.proofs.Ready.{reach, window_sized}

-- ---- neither an accepted set nor a reset changes the setting

module _ (r : Relay) where
  now_setting : (w : Window) → (relay_now r w).setting ≡ r.setting
  unfolding relay_now
  now_setting w = refl

  cleared_setting : (cleared r).setting ≡ r.setting
  unfolding cleared
  cleared_setting = refl

-- ---- records that are admissible

none_counted : (M : ℕ) → hold (counters_within M (per_system (λ l. clear))) ≡ true
none_counted M = is_true (counters_test M (λ l. clear) (λ l. omega arith))

pub fresh_admissible : (v : Setting) → T (startable v) → admissible (fresh v) ≡ true
unfolding admissible fresh
fresh_admissible v s = let sound : startable v ≡ true = is_true s in rw (sound, none_counted v.confirm)

module _ (r : Relay) (a : admissible r ≡ true) where
  cleared_admissible : admissible (cleared r) ≡ true
  unfolding admissible cleared
  cleared_admissible =
      let at : (k : ℕ) → get_or (admissions r) k true ≡ true = λ k. is_true (admitted r a k) in
      simp (at 0, at 1, at 2, none_counted r.setting.confirm, at 4, within_idle)

  -- sums after a set
  backup_within : (w : Window) (b : Bool) → full w ≡ b → T (hold (sums_within (backup_now r w)))
  unfolding backup_now backup_by
  backup_within w true e = rw e (is_T (within_after _ _ _ _ r.backup (is_true (admitted r a 5))))
  backup_within w false e = rw e (admitted r a 5)

  -- with an accepted set filed
  now_admissible : (xs : List ℤ) → T (accepted r.setting xs) → admissible (relay_now r (window_after r xs)) ≡ true
  unfolding relay_now
  now_admissible xs t =
      let M = r.setting.confirm in
      admissible_of_lem (relay_now r (window_after r xs))
      (admitted r a 0
      & le→leb _ _ (window_with_fill r.window (numbers r.setting xs))
      & sized_test (window_sized r xs a (reach r.setting xs t))
      & counters_test M (element_now r (window_after r xs)) (λ l. element-≤ M _ (element_of r.trip l))
      & raised_within r.events (admitted r a 4) _
      & backup_within (window_after r xs) (full (window_after r xs)) refl
      & none)

  -- with other events
  events_admissible : (e : Events) → T (hold (within e)) → admissible (with_events r e) ≡ true
  events_admissible e h = admissible_of_lem (with_events r e) (admitted r a 0 & admitted r a 1 & admitted r a 2 & admitted r a 3 & h & admitted r a 5 & none)

-- ---- one call

pub record Valid (v : Setting) (r : Relay) : Type 0 where
  pub ok : admissible r ≡ true
  pub same : r.setting ≡ v

-- what a call does with the record r, and the record that it returns
pub data Step (v : Setting) (r : Relay) : Call → Relay → Type 0 where
  files : {xs : List ℤ} → accepted v xs ≡ true → sample_reply r xs ≡ gives (reply_now r (window_after r xs)) →
      Step v r (sample xs) (relay_now r (window_after r xs))
  declines : {xs : List ℤ} → accepted v xs ≡ false → Other (sample_reply r xs) → Step v r (sample xs) (refused_relay r)
  clears : reset_reply r ≡ gives (tt {0}) → Step v r reset (cleared r)
  reads : {o : ℕ} → read_reply r o ≡ first_of (beyond o ∷ []) (get_or (page_of r) o 0) → Step v r (read o) r
  resets_by_page : {o x : ℕ} → resets o x ≡ true → write_reply r o ≡ first_refusal (beyond o ∷ fixed o ∷ []) → Step v r (write o x) (cleared r)
  writes : {o x : ℕ} → resets o x ≡ false → write_reply r o ≡ first_refusal (beyond o ∷ fixed o ∷ []) →
      Step v r (write o x) (with_events r (written_events o x r.events))

pub step : {v : Setting} {r : Relay} → Valid v r → (c : Call) → Step v r c (after r c)
step {v} {r} h reset = rw (reset_leaves r h.ok) (clears (reset_gives r h.ok))
step {v} {r} h (read o) = reads (read_reply_lem r h.ok o)
step {v} {r} h (write o x) = by (resets o x) refl
  where
    by : (b : Bool) → resets o x ≡ b → Step v r (write o x) (write_relay r o x)
    by true e = rw (write_resets r h.ok o x e) (resets_by_page e (write_reply_lem r h.ok o))
    by false e = rw (write_leaves_lem r h.ok o x e) (writes e (write_reply_lem r h.ok o))
step {v} {r} h (sample xs) = by (accepted v xs) refl
  where
    by : (b : Bool) → accepted v xs ≡ b → Step v r (sample xs) (sample_relay r xs)
    by true e = let o = sample_gives v r xs h.ok h.same e in rw o (files e o)
    by false e = let o = sample_declines v r xs h.ok h.same e in rw (o.is, other_leaves o r) (declines e o)

valid_step : {v : Setting} {r s : Relay} {c : Call} → Valid v r → Step v r c s → Valid v s
unfolding refused_relay
valid_step {r = r} h (files {xs = xs} e o) =
    record { ok = now_admissible r h.ok xs (rw h.same (is_T e)); same = now_setting r (window_after r xs) ∙ h.same }
valid_step {r = r} h (declines e o) =
    record { ok = events_admissible r h.ok _ (raised_within r.events (admitted r h.ok 4) _); same = h.same }
valid_step {r = r} h (clears o) = record { ok = cleared_admissible r h.ok; same = cleared_setting r ∙ h.same }
valid_step h (reads o) = h
valid_step {r = r} h (resets_by_page e o) = record { ok = cleared_admissible r h.ok; same = cleared_setting r ∙ h.same }
valid_step {r = r} h (writes {o = o} {x = x} e a) =
    record { ok = events_admissible r h.ok _ (written_within r.events (admitted r h.ok 4) o x); same = h.same }

pub valid_after : {v : Setting} {r : Relay} → Valid v r → (c : Call) → Valid v (after r c)
valid_after h c = valid_step h (step h c)

-- after a sample call
pub kept : (r : Relay) (xs : List ℤ) → admissible r ≡ true → admissible (sample_relay r xs) ≡ true
kept r xs a = (valid_after (record { ok = a; same = refl }) (sample xs)).ok
