-- `relay::calls::measured` meets its contract: what is measured, the counters and latches after it, and the overcurrent elements' sums and trips are those of
-- the definitions.
use Rattle.relay.proofs.Admission.{admitted}
use Rattle.relay.proofs.Ready.{held, watch_ready}
use Rattle.relay.proofs.Settled.{measured_reply, measured_relay}
use Rattle.relay.proofs.calls.measured.Goals as goal

pub measured-full-requires : goal.measured-full-requires
measured-full-requires c = watch_ready c.args.r c.requires.admitted _ c.requires.window.measurable

pub events_after-events-requires : goal.events_after-events-requires
events_after-events-requires c =
    let r = c.args.r in
    let a = c.requires.admitted in
    record { held = held r a; events = admitted r a 4 }

pub returns : goal.returns
returns c =
    let r = c.args.r in
    let w = c.args.w in
    let m = c.measured-full.ensures in
    let t = c.trip_after-trip.ensures in
    let full = c.requires.window.full in
    record {
      reply = rw (c.measures.ensures, c.tripped.ensures) (measured_reply r w full m.readings t m.backup);
      relay = measured_relay r w full m.readings t m.backup c.events_after-events.ensures;
    }
