-- Event flags and interrupt mask over lists of calls. The invariant: each system is traced by the log's sets and counts (TripLaws.antt), so that starts and
-- latches by the record are those by the log; and the events are the log's.
use mathlib.Core.Path.{◌≡◌, refl, ap, ◌∙◌}
use mathlib.Core.List.{[]}
use Rattle.setting.specs.declared.Setting.{Setting}
use Rattle.matching.specs.Sets.{System, sys_a, sys_b, sys_c}
use Rattle.state.specs.declared.Window.{Window}
use Rattle.state.specs.State.{latches_of}
use Rattle.page.specs.Events.{new_flags, refused_set, raised, written}
use Rattle.page.specs.Page.{starts_of, shown}
use Rattle.relay.specs.declared.Relay.{Relay}
use Rattle.relay.specs.Record.{fresh}
use Rattle.relay.specs.Calls.{window_after, starts_by, events_now, relay_now, refused_relay, cleared}
use Rattle.relay.specs.Lists.{Call, sample}
use Rattle.relay.proofs.Cases.{resets_at}
use Rattle.relay.proofs.Kept.{Valid, Step, files, declines, clears, reads, resets_by_page, writes}
use Rattle.relay.proofs.Induction.{Invariant, along, last, any_call}
use Rattle.stability.specs.Trips.{Trail}
use Rattle.stability.specs.Flags.{Log, starts_at, latches_at, counting, logging, log, Noted}
use Rattle.stability.proofs.TripLaws.{Traced, traced_fresh, traced_kept}

module _ (v : Setting) where
  -- what the log says of a system
  abbrev trail_of : Log → System → Trail
  trail_of g l = record { sets = g.sets; counted = g.counted l }

  record Logged (g : Log) (r : Relay) : Type 0 where
    traced : (l : System) → Traced v l (trail_of g l) r
    events : r.events ≡ g.events

  -- starts and latches by the record are those by the log
  starts_at_lem : (g : Log) {r : Relay} → ((l : System) → Traced v l (trail_of g l) r) → starts_of (shown v r.window) ≡ starts_at v g
  starts_at_lem g t = ap (λ (w : Window). starts_of (shown v w)) (t sys_a).filed.window

  latches_at_lem : (g : Log) {r : Relay} → ((l : System) → Traced v l (trail_of g l) r) → latches_of r.trip ≡ latches_at v g
  latches_at_lem g t = λ i. record { b0 = ((t sys_a).element i).latch; b1 = ((t sys_b).element i).latch; b2 = ((t sys_c).element i).latch }

  events_kept : {g : Log} {r s : Relay} {c : Call} → Valid v r → Logged g r → ((l : System) → Traced v l (trail_of (counting v g c) l) s) → Step v r c s →
      s.events ≡ (logging v g c).events
  unfolding relay_now refused_relay cleared
  events_kept {g} {r} h k t (files {xs = xs} e o) =
      let after = counting v g (sample xs) in
      let same : (w : Window) → starts_by r w ≡ starts_of (shown v w) = λ w. ap (λ (u : Setting). starts_of (shown u w)) h.same in
      let start = same r.window ∙ starts_at_lem g k.traced in
      let start-now = same (window_after r xs) ∙ starts_at_lem after t in
      let is : events_now r (window_after r xs) ≡ raised (new_flags (starts_at v g) (starts_at v after) (latches_at v g) (latches_at v after)) g.events =
      λ i. raised (new_flags (start i) (start-now i) (latches_at_lem g k.traced i) (latches_at_lem after t i)) (k.events i) in
      is ∙ rw e
  events_kept h k t (declines e o) = rw e (ap (raised refused_set) k.events)
  events_kept h k t (clears o) = k.events
  events_kept h k t (reads o) = k.events
  events_kept h k t (resets_by_page {o = o} {x = x} e a) = rw (resets_at o x e) k.events
  events_kept h k t (writes {o = o} {x = x} e a) = ap (written o x) k.events

  logged_kept : {g : Log} {r s : Relay} {c : Call} → Valid v r → Logged g r → Step v r c s → Logged (logging v g c) s
  logged_kept {g} {r} {s} {c} h k st =
      let t : (l : System) → Traced v l (trail_of (counting v g c) l) s = λ l. traced_kept v l h (k.traced l) st in
      record { traced = t; events = events_kept h k t st }

  logged_fresh : Logged (log v []) (fresh v)
  unfolding fresh
  logged_fresh = record { traced = λ l. traced_fresh v l; events = refl }

  abbrev invariant : Invariant v (λ c. Unit {0})
  invariant =
      record {
        State = Log;
        start = log v [];
        next = logging v;
        Inv = Logged;
        Shown = λ g r c. Unit {0};
        first = logged_fresh;
        keeps = λ h k p st. (logged_kept h k st, tt);
      }

pub noted : Noted
unfolding Noted
noted v s cs = (last (invariant v) (along (invariant v) s (any_call cs))).1.events
