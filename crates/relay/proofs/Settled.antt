-- An accepted set, once it is filed: the answer and the record of a window that fills, and of one that is full.
use mathlib.Core.Path.{◌≡◌, ap, ◌∙◌}
use mathlib.Core.Bool.{true, false}
use Prim.Native.Nat.{ℕ}
use Rattle.bits.specs.declared.Bits.{Bits}
use Rattle.refusal.specs.Refusals.{Outcome, gives}
use Rattle.measuring.specs.declared.Reading.{Reading}
use Rattle.inverse_time.specs.declared.Timer.{Timer}
use Rattle.systems.specs.declared.Systems.{Systems}
use Rattle.measuring.specs.Measuring.{reading_of, readings_of}
use Rattle.state.specs.declared.Element.{Element}
use Rattle.state.specs.declared.Window.{Window}
use Rattle.relay.specs.declared.Relay.{Relay}
use Rattle.state.specs.State.{element_after, latches_of, full}
use Rattle.state.proofs.Elements.{latch_kept}
use Rattle.systems.specs.declared.Ends.{Ends}
use Rattle.overcurrent.specs.Ends.{trips_of}
use Rattle.overcurrent.specs.Watching.{backup_by}
use Rattle.page.specs.declared.Events.{Events}
use Rattle.page.specs.Events.{new_flags, raised}
use Rattle.page.specs.Page.{starts_of}
use Rattle.page.proofs.EventLaws.{no_bit, not_new, raised_none}
use Rattle.relay.specs.Record.{admissible}
use Rattle.relay.specs.declared.Answer.{Answer}
use Rattle.relay.specs.declared.Answer.TheVariants.{Filling, Measured}
use Rattle.relay.specs.Calls.{trip_now, starts_by, flags_now, events_now, backup_now, reply_now, relay_now}
use Rattle.relay.specs.CallInput.{trip_after, measures_of}
use Rattle.relay.proofs.Admission.{admitted}

module _ (r : Relay) (w : Window) where
  pub filling_reply : full w ≡ false → ◌≡◌ {A = Outcome Answer} (gives (Filling w.fill)) (gives (reply_now r w))
  unfolding reply_now
  filling_reply e = rw e

  -- no system starts while the window fills, and no latch is new
  filling_events : full w ≡ false → admissible r ≡ true → events_now r w ≡ r.events
  filling_events e adm = ap (λ (b : Bits). raised b r.events) none_new ∙ raised_none r.events (admitted r adm 4)
    where
      M : ℕ
      M = r.setting.confirm

      none_new : flags_now r w ≡ no_bit
      none_new =
          let t = r.trip in
          rw (e, latch_kept M t.a, latch_kept M t.b, latch_kept M t.c, not_new (latches_of t))

  pub filling_relay : full w ≡ false → admissible r ≡ true → {a b c : Element} →
      a ≡ element_after r.setting.confirm false r.trip.a →
      b ≡ element_after r.setting.confirm false r.trip.b →
      c ≡ element_after r.setting.confirm false r.trip.c →
      ◌≡◌ {A = Relay} (record { setting = r.setting; window = w; trip = record { a = a; b = b; c = c }; events = r.events; backup = r.backup })
      (relay_now r w)
  unfolding relay_now backup_now
  filling_relay e adm p q s = rw (filling_events e adm, p, q, s, e)

  module _ (full-now : full w ≡ true) {m : Systems Reading} (e : m ≡ readings_of r.setting w.values) {t : Systems Element} (p : t ≡ trip_after r.setting m r.trip) where
    pub measured_trip : t ≡ trip_now r w
    unfolding readings_of reading_of
    measured_trip = rw (p, e, full-now)

    module _ {b : Ends Timer} (after : b ≡ backup_by r.setting w.values r.backup) where
      pub measured_reply : ◌≡◌ {A = Outcome Answer}
          (gives (Measured (measures_of m t) (trips_of b))) (gives (reply_now r w))
      unfolding reply_now backup_now readings_of reading_of
      measured_reply = rw (measured_trip, e, after, full-now)

      pub measured_relay : {n : Events} → n ≡ raised (new_flags (starts_by r r.window) (starts_of m) (latches_of r.trip) (latches_of t)) r.events →
          ◌≡◌ {A = Relay} (record { setting = r.setting; window = w; trip = t; events = n; backup = b }) (relay_now r w)
      unfolding relay_now backup_now readings_of reading_of
      measured_relay n = rw (n, measured_trip, e, after, full-now)
