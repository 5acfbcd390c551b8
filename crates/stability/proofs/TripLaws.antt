-- Latches and counters over lists of calls. The invariant: the window is that of the last twelve sets filed (Demand2.antt), so a system counts at a set
-- by the record where it does by the trail; and its element is the one after the sets of the trail. Then the laws of sets in a row, of crate `state`.
use mathlib.Core.Path.{◌≡◌}
use mathlib.Core.List.{List, []}
use lib.Dec.{T}
use Rattle.setting.specs.declared.Setting.{Setting}
use Rattle.setting.specs.Values.{startable}
use Rattle.setting.proofs.LimitLaws.{startable_is}
use Rattle.matching.specs.Sets.{System}
use Rattle.state.specs.State.{element_of, clear}
use Rattle.state.specs.Rows.{after_sets, LatchedInARow, CountedInARow}
use Rattle.state.proofs.Elements.{element_of_lem}
use Rattle.state.proofs.RowLaws.{latched_in_a_row, counted_in_a_row}
use Rattle.relay.specs.declared.Relay.{Relay}
use Rattle.relay.specs.Record.{fresh}
use Rattle.relay.specs.Calls.{window_after, element_now, relay_now, refused_relay, cleared}
use Rattle.relay.specs.Lists.{Call, run}
use Rattle.relay.proofs.Kept.{Valid, Step, files, declines, clears, reads, resets_by_page, writes}
use Rattle.relay.proofs.Induction.{Invariant, along, last, any_call}
use Rattle.stability.specs.Trips.{Trail, trailing, trail, element_at, Latched, Counted}
use Rattle.stability.proofs.Demand2.{Filed, filed_fresh, window_now, filed_kept}

module _ (v : Setting) (l : System) where
  pub record Traced (t : Trail) (r : Relay) : Type 0 where
    pub filed : Filed t.sets r
    pub element : element_of r.trip l ≡ after_sets v.confirm t.counted

  pub traced_fresh : Traced (trail v l []) (fresh v)
  unfolding fresh
  traced_fresh = record { filed = filed_fresh v; element = element_of_lem (λ l. clear) l }

  element_kept : {t : Trail} {r s : Relay} {c : Call} → Valid v r → Traced t r → Step v r c s →
      element_of s.trip l ≡ after_sets v.confirm (trailing v l t c).counted
  unfolding relay_now refused_relay cleared
  element_kept {r = r} h k (files {xs = xs} e o) =
      rw (e, element_of_lem (element_now r (window_after r xs)) l, window_now h k.filed xs, h.same, k.element)
  element_kept h k (declines e o) = rw e k.element
  element_kept h k (clears o) = element_of_lem (λ l. clear) l
  element_kept h k (reads o) = k.element
  element_kept h k (resets_by_page e o) = rw e (element_of_lem (λ l. clear) l)
  element_kept h k (writes e o) = rw e k.element

  pub traced_kept : {t : Trail} {r s : Relay} {c : Call} → Valid v r → Traced t r → Step v r c s → Traced (trailing v l t c) s
  traced_kept h k st = record { filed = filed_kept h k.filed st; element = element_kept h k st }

  abbrev invariant : Invariant v (λ c. Unit {0})
  invariant =
      record {
        State = Trail;
        start = trail v l [];
        next = trailing v l;
        Inv = Traced;
        Shown = λ t r c. Unit {0};
        first = traced_fresh;
        keeps = λ h k p st. (traced_kept h k st, tt);
      }

  pub traced : T (startable v) → (cs : List Call) → Valid v (run (fresh v) cs) × Traced (trail v l cs) (run (fresh v) cs)
  traced s cs = last invariant (along invariant s (any_call cs))

  element_after_lem : T (startable v) → (cs : List Call) → element_at v l cs ≡ after_sets v.confirm (trail v l cs).counted
  element_after_lem s cs = (traced s cs).1.element

pub latched : Latched
unfolding Latched LatchedInARow
latched v s cs l = rw (element_after_lem v l s cs) (latched_in_a_row v.confirm (startable_is v s).confirm.least (trail v l cs).counted)

pub counted : Counted
unfolding Counted CountedInARow
counted v s cs l = rw (element_after_lem v l s cs) (counted_in_a_row v.confirm (trail v l cs).counted)
