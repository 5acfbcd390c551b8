-- Demand 2 over lists of calls. The invariant: the window is that of the last twelve sets filed.
use mathlib.Core.Path.{◌≡◌, refl, ap, ◌∙◌}
use mathlib.Core.List.{List, [], ◌∷◌, ◌++◌, flatten}
use lib.Dec.{T}
use lib.IntN.{ℤ}
use lib.ListN.{get_or}
use Rattle.lists.specs.Tests.{Each, none, ◌&◌}
use Rattle.lists.proofs.TestLaws.{each_append}
use Rattle.lists.proofs.Places.{length_up_to}
use Rattle.refusal.specs.Refusals.{first_of}
use Rattle.setting.specs.declared.Setting.{Setting}
use Rattle.setting.specs.Values.{startable}
use Rattle.matching.specs.Sets.{numbers}
use Rattle.state.specs.declared.Window.{Window}
use Rattle.page.specs.Page.{page, shown}
use Rattle.relay.specs.declared.Relay.{Relay}
use Rattle.relay.specs.Record.{fresh}
use Rattle.relay.specs.Calls.{set_rows, window_after, reply_now, relay_now, refused_relay, cleared}
use Rattle.relay.specs.Page.{beyond}
use Rattle.relay.specs.Lists.{Call, run}
use Rattle.relay.proofs.Cases.{sample_reply_lem, reset_gives, read_reply_lem, write_reply_lem}
use Rattle.relay.proofs.Kept.{Valid, Step, files, declines, clears, reads, resets_by_page, writes}
use Rattle.relay.proofs.Induction.{Invariant, along, last, any_call}
use Rattle.stability.specs.Lists.{filing, filed, last12, window_of, SettingKept, WindowFiled, Answered, ResetAccepted, ReadAnswered, WriteAnswered}
use Rattle.stability.proofs.Filing.{Twelve, filed_window}

pub record Filed (ws : List (List ℤ)) (r : Relay) : Type 0 where
  pub window : r.window ≡ window_of (last12 ws)
  pub twelves : Each Twelve ws

pub filed_fresh : (v : Setting) → Filed [] (fresh v)
unfolding fresh last12 window_of flatten
filed_fresh v = record { window = refl; twelves = none }

module _ {v : Setting} {ws : List (List ℤ)} {r : Relay} (h : Valid v r) (f : Filed ws r) where
  -- the window with an accepted set filed
  pub window_now : (xs : List ℤ) → window_after r xs ≡ window_of (last12 (ws ++ (numbers v xs ∷ [])))
  window_now xs = rw (h.same, f.window) (filed_window f.twelves (numbers v xs))

  pub filed_kept : {s : Relay} {c : Call} → Step v r c s → Filed (filing v ws c) s
  unfolding relay_now refused_relay cleared numbers
  filed_kept (files {xs = xs} e o) = rw e (record { window = window_now xs; twelves = each_append f.twelves (length_up_to 12 _ & none) })
  filed_kept (declines e o) = rw e (record { window = f.window; twelves = f.twelves })
  filed_kept (clears o) = record { window = f.window; twelves = f.twelves }
  filed_kept (reads o) = f
  filed_kept (resets_by_page e o) = record { window = f.window; twelves = f.twelves }
  filed_kept (writes e o) = record { window = f.window; twelves = f.twelves }

abbrev invariant : (v : Setting) → Invariant v (λ c. Unit {0})
invariant v =
    record { State = _; start = []; next = filing v; Inv = Filed; Shown = λ ws r c. Unit {0}; first = filed_fresh v; keeps = λ h f p k. (filed_kept h f k, tt) }

after_run : (v : Setting) → T (startable v) → (cs : List Call) → Valid v (run (fresh v) cs) × Filed (filed v cs) (run (fresh v) cs)
after_run v s cs = last (invariant v) (along (invariant v) s (any_call cs))

pub setting_kept : SettingKept
unfolding SettingKept
setting_kept v s cs = (after_run v s cs).0.same

pub window_filed : WindowFiled
unfolding WindowFiled
window_filed v s cs = (after_run v s cs).1.window

pub answered : Answered
unfolding Answered
answered v s cs xs =
    let (h, f) = after_run v s cs in
    let r = run (fresh v) cs in
    sample_reply_lem v r xs h.ok h.same ∙ ap (λ (w : Window). first_of (set_rows v xs) (reply_now r w)) (window_now h f xs)

pub reset_accepted : ResetAccepted
unfolding ResetAccepted
reset_accepted v s cs = reset_gives (run (fresh v) cs) (after_run v s cs).0.ok

pub read_answered : ReadAnswered
unfolding ReadAnswered
read_answered v s cs o =
    let (h, f) = after_run v s cs in
    let r = run (fresh v) cs in
    read_reply_lem r h.ok o
    ∙ ap (λ (w : Setting). first_of (beyond o ∷ []) (get_or (page r.trip (shown w r.window) r.events) o 0)) h.same
    ∙ ap (λ (w : Window). first_of (beyond o ∷ []) (get_or (page r.trip (shown v w) r.events) o 0)) f.window

pub write_answered : WriteAnswered
unfolding WriteAnswered
write_answered v s cs o = write_reply_lem (run (fresh v) cs) (after_run v s cs).0.ok o
