-- The register page stands apart (§ The register page 5). A record with other events answers a sample call and a reset as the record does, and what is
-- left differs in the events again; a read, and a write that does not reset, changes the events at most.
use mathlib.Core.Path.{◌≡◌, refl, sym, ap, ◌∙◌, subst}
use mathlib.Core.Bool.{Bool, true, false, cond, true≢false}
use mathlib.Core.List.{List, [], ◌∷◌}
use Prim.Native.Nat.{ℕ}
use lib.IntN.{ℤ}
use Rattle.refusal.specs.Refusals.{Outcome, gives, declines, by_outcome}
use Rattle.page.specs.declared.Events.{Events}
use Rattle.relay.specs.declared.Answer.{Answer}
use Rattle.relay.specs.declared.Relay.{Relay}
use Rattle.relay.specs.Record.{admissible, with_events}
use Rattle.relay.specs.Calls.{window_after, backup_now, reply_now, relay_now, refused_relay, of_set, left_at, sample_reply, sample_relay}
use Rattle.relay.specs.Calls.{reset_rows, cleared, reset_reply, reset_relay}
use Rattle.relay.specs.Page.{write_rows, resets, write_reply, write_relay}
use Rattle.relay.specs.Lists.{Call, sample, reset, read, write, after, run}
use Rattle.relay.proofs.Cases.{sample_reply_lem, reset_leaves, write_resets, write_leaves_lem}
use Rattle.relay.proofs.Kept.{valid_after}
use Rattle.stability.specs.Apart.{stays, struck, sampled, done, told, answers, Alike, PageApart}

-- ---- a record, and one with other events

module _ (r : Relay) (e : Events) (p : admissible r ≡ true) (q : admissible (with_events r e) ≡ true) where
  sample_same : (xs : List ℤ) → sample_reply r xs ≡ sample_reply (with_events r e) xs
  unfolding reply_now backup_now
  sample_same xs = sample_reply_lem r.setting r xs p refl ∙ sym (sample_reply_lem r.setting (with_events r e) xs q refl)

  sample_alike : (xs : List ℤ) → Alike (sample_relay r xs) (sample_relay (with_events r e) xs)
  unfolding relay_now backup_now refused_relay
  sample_alike xs = rw (← (sample_same xs)) (by (sample_reply r xs))
    where
      s : Relay
      s = with_events r e

      refused : (b : Bool) → Alike (cond b (refused_relay r) r) (cond b (refused_relay s) s)
      refused true = record { setting = refl; window = refl; trip = refl; backup = refl }
      refused false = record { setting = refl; window = refl; trip = refl; backup = refl }

      by : (o : Outcome Answer) → Alike (by_outcome o (left_at r) (λ a. relay_now r (window_after r xs))) (by_outcome o (left_at s) (λ a. relay_now s (window_after r xs)))
      by (gives a) = record { setting = refl; window = refl; trip = refl; backup = refl }
      by (declines told) = refused (of_set told)

  reset_same : reset_reply r ≡ reset_reply (with_events r e)
  unfolding reset_rows
  reset_same = rw (p, q)

  reset_alike : Alike (reset_relay r) (reset_relay (with_events r e))
  unfolding cleared
  reset_alike = rw (reset_leaves r p, reset_leaves (with_events r e) q) (record { setting = refl; window = refl; trip = refl; backup = refl })

  write_same : (o : ℕ) → write_reply r o ≡ write_reply (with_events r e) o
  unfolding write_rows
  write_same o = rw (p, q)

  -- a write that resets
  write_alike : (o x : ℕ) → resets o x ≡ true → Alike (write_relay r o x) (write_relay (with_events r e) o x)
  unfolding cleared
  write_alike o x h = rw (write_resets r p o x h, write_resets (with_events r e) q o x h) (record { setting = refl; window = refl; trip = refl; backup = refl })

  told_same : (c : Call) → stays c ≡ true → told r c ≡ told (with_events r e) c
  told_same (sample xs) h = ap sampled (sample_same xs)
  told_same reset h = ap done reset_same
  told_same (read o) h = absurd (true≢false (sym h))
  told_same (write o x) h = ap done (write_same o)

  after_alike : (c : Call) → stays c ≡ true → Alike (after r c) (after (with_events r e) c)
  after_alike (sample xs) h = sample_alike xs
  after_alike reset h = reset_alike
  after_alike (read o) h = absurd (true≢false (sym h))
  after_alike (write o x) h = write_alike o x h

-- a call that is struck
struck_alike : (r s : Relay) → admissible r ≡ true → Alike r s → (c : Call) → stays c ≡ false → Alike (after r c) s
struck_alike r s p a (sample xs) h = absurd (true≢false h)
struck_alike r s p a reset h = absurd (true≢false h)
struck_alike r s p a (read o) h = a
struck_alike r s p a (write o x) h = rw (write_leaves_lem r p o x h) (record { setting = a.setting; window = a.window; trip = a.trip; backup = a.backup })

-- ---- the list

after_admissible : (r : Relay) → admissible r ≡ true → (c : Call) → admissible (after r c) ≡ true
after_admissible r p c = (valid_after {v = r.setting} (record { ok = p; same = refl }) c).ok

-- records alike are a record and one with other events
alike_is : {r s : Relay} → Alike r s → with_events r s.events ≡ s
alike_is {r} {s} a = λ i. record { setting = a.setting i; window = a.window i; trip = a.trip i; events = s.events; backup = a.backup i }

abbrev Apart : List Call → Type 0
Apart cs =
    (r s : Relay) → admissible r ≡ true → admissible s ≡ true → Alike r s → (answers r cs ≡ answers s (struck cs)) × Alike (run r cs) (run s (struck cs))

module _ (c : Call) (cs : List Call) (more : Apart cs) where
  call_stays : stays c ≡ true → Apart (c ∷ cs)
  unfolding answers struck
  call_stays h r s p q a =
      let same = alike_is a in
      let q' : admissible (with_events r s.events) ≡ true = ap admissible same ∙ q in
      let t : told r c ≡ told s c = told_same r s.events p q' c h ∙ ap (λ (u : Relay). told u c) same in
      let l : Alike (after r c) (after s c) = subst (λ (u : Relay). Alike (after r c) (after u c)) same (after_alike r s.events p q' c h) in
      let (ts, ls) = more (after r c) (after s c) (after_admissible r p c) (after_admissible s q c) l in
      rw h (rw h ((λ i. t i ∷ ts i), ls))

  call_struck : stays c ≡ false → Apart (c ∷ cs)
  unfolding answers struck
  call_struck h r s p q a = rw h (more (after r c) s (after_admissible r p c) q (struck_alike r s p a c h))

apart_from : (cs : List Call) → Apart cs
unfolding answers struck
apart_from [] = λ r s p q a. (refl, a)
apart_from (c ∷ cs) = by (stays c) refl (apart_from cs)
  where
    by : (b : Bool) → stays c ≡ b → Apart cs → Apart (c ∷ cs)
    by true h more = call_stays c cs more h
    by false h more = call_struck c cs more h

pub page_apart : PageApart
unfolding PageApart
page_apart r p cs = apart_from cs r r p p (record { setting = refl; window = refl; trip = refl; backup = refl })
