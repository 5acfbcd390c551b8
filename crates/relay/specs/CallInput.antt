-- What the code of the calls takes, and the counters and latches that it makes of what is measured.
use Rattle.std.specs.Prelude.{◌≡◌, true, false}
use Rattle.setting.specs.declared.Setting.{Setting}
use Rattle.characteristic.specs.Characteristic.{counts}
use Rattle.measuring.specs.declared.Reading.{Reading}
use Rattle.systems.specs.declared.Systems.{Systems}
use Rattle.measuring.specs.WindowInput.{Measurable}
use Rattle.state.specs.declared.Element.{Element}
use Rattle.state.specs.declared.Window.{Window}
use Rattle.state.specs.State.{element_after, full}
use Rattle.relay.specs.declared.Relay.{Relay}
use Rattle.relay.specs.declared.Measure.{Measure}
use Rattle.relay.specs.Record.{admissible}

-- a window that holds twelve, and can be measured
pub record Full (v : Setting) (w : Window) : Type 0 where
  pub full : full w ≡ true
  pub measurable : Measurable v w.values

-- a set filed in an admissible record: the window is full after it, or not yet
pub record FullNow (r : Relay) (w : Window) : Type 0 where
  pub admitted : admissible r ≡ true
  pub window : Full r.setting w

pub record FillingNow (r : Relay) (w : Window) : Type 0 where
  pub admitted : admissible r ≡ true
  pub unfilled : full w ≡ false

-- the counter and the latch of a system that was measured so, and those of the three
abbrev pub element_by : Setting → Reading → Element → Element
element_by v m e = element_after v.confirm (counts v m.d m.start m.blocked) e

abbrev pub trip_after : Setting → Systems Reading → Systems Element → Systems Element
trip_after v m t = record { a = element_by v m.a t.a; b = element_by v m.b t.b; c = element_by v m.c t.c }

-- what an answer says of the three systems
abbrev pub measures_of : Systems Reading → Systems Element → Systems Measure
measures_of m t =
    record {
      a = record { reading = m.a; latched = t.a.latch };
      b = record { reading = m.b; latched = t.b.latch };
      c = record { reading = m.c; latched = t.c.latch };
    }
