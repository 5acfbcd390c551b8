-- The cases of the calls: a start that is accepted; a set that is declined, by the first row that applies, and one that is accepted, which none does.
use mathlib.Core.Path.{◌≡◌, refl, sym, ap, ◌∙◌}
use mathlib.Core.Logic.{◌≢◌}
use mathlib.Core.Bool.{Bool, true, false, not, ◌||◌}
use mathlib.Core.List.{List, [], ◌∷◌}
use Prim.Native.Nat.{ℕ}
use native.Mathlib.Omega.{arith}
use lib.Dec.{T, leb, eqb}
use borrow.Author.Tests.{leb-true, eqb-true, ne_eqb}
use lib.IntN.{ℤ}
use lib.ListN.{get_or}
use Rattle.lists.proofs.TestLaws.{split, is_true}
use Rattle.std.specs.Prelude.{Ok}
use Rattle.refusal.specs.Refusals.{Told, Outcome, gives, declines, by_outcome, ◌when◌, first_of, first_refusal, done, outcome_of}
use Rattle.refusal.proofs.Stops.{Stops, Stopped, stops_declines, first_of_values, none_gives, stopped}
use Rattle.setting.specs.declared.Setting.{Setting}
use Rattle.state.specs.declared.Window.{Window}
use Rattle.relay.specs.declared.Relay.{Relay}
use Rattle.relay.specs.declared.Answer.{Answer}
use Rattle.relay.specs.declared.Returned.{Returned}
use Rattle.page.specs.Events.{written as written_events}
use Rattle.relay.specs.Record.{fresh, admissible, with_events}
use Rattle.relay.specs.Calls.{set_rows, accepted, sample_rows, window_after, reply_now, relay_now, refused_relay, of_set, left_at, sample_reply, Gives, Samples}
use Rattle.relay.specs.Page.{page_of, beyond, fixed, read_rows, read_reply, write_rows, resets, written, write_reply, write_relay}
use Rattle.relay.specs.Calls.{reset_rows, cleared, reset_reply, reset_relay, start_reply, Starts}

-- ---- a start that is accepted

pub record Accepted (v : Setting) (r : Relay) : Type 0 where
  pub given : start_reply v ≡ done
  pub relay : r ≡ fresh v

pub start_accepted : {v : Setting} {s : Returned (Unit {0})} → Starts v s → s.answer ≡ Ok (tt {0}) → Accepted v s.relay
start_accepted {v} s e =
    let o : start_reply v ≡ done = sym s.reply ∙ ap outcome_of e in
    record { given = o; relay = rw o at s.relay }

-- ---- any record

pub declined : (r : Relay) (xs : List ℤ) {s : Returned Answer} {n : Told} → Stops (sample_rows r xs) n → Gives (declines n) (left_at r n) s → Samples r xs s
declined r xs {n = n} p g =
    let o : sample_reply r xs ≡ declines n = stops_declines p _ in
    record { reply = rw o g.reply; relay = rw o g.relay }

-- ---- an admissible record of the setting v

-- a refusal of 10, 11 or 14
pub record Other {A : Type 0} (o : Outcome A) : Type 0 where
  pub told : Told
  pub is : o ≡ declines told
  pub among : T (of_set told)

pub not_12 : {A : Type 0} {o : Outcome A} (d : Other o) → d.told.number ≢ 12
not_12 d e = rw e at d.among

-- what it leaves
pub other_leaves : {A : Type 0} {o : Outcome A} (d : Other o) (r : Relay) → left_at r d.told ≡ refused_relay r
other_leaves d r = let among : of_set d.told ≡ true = is_true d.among in rw among

module _ (v : Setting) (r : Relay) (xs : List ℤ) (adm : admissible r ≡ true) (same : r.setting ≡ v) where
  -- 12 is passed
  pub sample_reply_lem : sample_reply r xs ≡ first_of (set_rows v xs) (reply_now r (window_after r xs))
  unfolding sample_rows
  sample_reply_lem = rw adm (ap (λ (w : Setting). first_of (set_rows w xs) (reply_now r (window_after r xs))) same)

  pub sample_gives : accepted v xs ≡ true → sample_reply r xs ≡ gives (reply_now r (window_after r xs))
  sample_gives e = sample_reply_lem ∙ none_gives (set_rows v xs) (rw e tt) _

  pub sample_declines : accepted v xs ≡ false → Other (sample_reply r xs)
  unfolding set_rows
  sample_declines e =
      let d : Stopped (set_rows v xs) = stopped (set_rows v xs) e in
      record { told = d.told; is = sample_reply_lem ∙ stops_declines d.stops _; among = d.among of_set tt }

  -- a set that was declined, as the call answers it
  pub sample_told : {n : Told} → first_refusal (set_rows v xs) ≡ declines n → sample_reply r xs ≡ declines n
  sample_told e = sample_reply_lem ∙ first_of_values (tt {0}) (reply_now r (window_after r xs)) (set_rows v xs) ∙ rw e

  pub set_declined : {n : Told} {s : Returned Answer} → first_refusal (set_rows v xs) ≡ declines n → Gives (declines n) (refused_relay r) s → Samples r xs s
  set_declined {s = s} e g = by (accepted v xs) refl
    where
      by : (b : Bool) → accepted v xs ≡ b → Samples r xs s
      by true p =
          let q : first_refusal (set_rows v xs) ≡ done = none_gives (set_rows v xs) (rw p tt) tt in
          let z : ◌≡◌ {A = ℕ} 0 1 = cc in
          absurd (omega arith)
      by false p = let o = sample_declines p in record { reply = rw (sample_told e) g.reply; relay = rw (o.is, other_leaves o r) g.relay }

  -- and one that was accepted, filed in the window w
  pub set_taken : {s : Returned Answer} → accepted v xs ≡ true → (w : Window) → w ≡ window_after r xs → Gives (gives (reply_now r w)) (relay_now r w) s → Samples r xs s
  set_taken t w e g = let o = sample_gives t in record { reply = rw (o, ← e) g.reply; relay = rw (o, ← e) g.relay }

-- a write that resets is one to byte 7
pub resets_at : (o x : ℕ) → resets o x ≡ true → o ≡ 7
resets_at o x e = eqb-true o 7 (is_true (split (eqb o 7) (eqb x 1) (rw e tt)).0)

module _ (r : Relay) (adm : admissible r ≡ true) where
  pub reset_gives : reset_reply r ≡ gives (tt {0})
  unfolding reset_rows
  reset_gives = rw adm

  pub reset_leaves : reset_relay r ≡ cleared r
  reset_leaves = rw reset_gives

  -- ---- the register page: 12 is passed

  pub read_reply_lem : (o : ℕ) → read_reply r o ≡ first_of (beyond o ∷ []) (get_or (page_of r) o 0)
  unfolding read_rows
  read_reply_lem o = rw adm

  pub write_reply_lem : (o : ℕ) → write_reply r o ≡ first_refusal (beyond o ∷ fixed o ∷ [])
  unfolding write_rows
  write_reply_lem o = rw adm

  -- a write of 1 to byte 7
  pub write_resets : (o x : ℕ) → resets o x ≡ true → write_relay r o x ≡ cleared r
  unfolding written
  write_resets o x e = rw (write_reply_lem o, e, resets_at o x e)

  -- any other: a byte that is not written changes nothing
  pub write_leaves_lem : (o x : ℕ) → resets o x ≡ false → write_relay r o x ≡ with_events r (written_events o x r.events)
  unfolding written
  write_leaves_lem o x e = rw (write_reply_lem o, e) (by (leb 64 o) refl)
    where
      same : eqb o 3 ≡ false → eqb o 4 ≡ false → r ≡ with_events r (written_events o x r.events)
      same p q = rw (p, q)

      left : Outcome (Unit {0}) → Relay
      left a = by_outcome a (λ n. r) (λ d. with_events r (written_events o x r.events))

      within : (b c : Bool) → eqb o 3 ≡ b → eqb o 4 ≡ c → left (first_refusal ((16 when not (b || (c || eqb o 7))) ∷ [])) ≡ with_events r (written_events o x r.events)
      within true c p q = refl
      within false true p q = refl
      within false false p q = by_seven (eqb o 7)
        where
          by_seven : (b : Bool) → left (first_refusal ((16 when not b) ∷ [])) ≡ with_events r (written_events o x r.events)
          by_seven true = refl
          by_seven false = same p q

      by : (b : Bool) → leb 64 o ≡ b → left (first_refusal ((15 when b) ∷ fixed o ∷ [])) ≡ with_events r (written_events o x r.events)
      by true p = let far = leb-true 64 o p in same (ne_eqb o 3 (λ e. omega arith)) (ne_eqb o 4 (λ e. omega arith))
      by false p = within (eqb o 3) (eqb o 4) refl refl
