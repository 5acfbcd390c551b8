-- What the code takes that shows a window or notes what is new, and what it looks at first.
use Rattle.std.specs.Prelude.{Bool, not, ◌||◌, ◌≤◌, T}
use Rattle.lists.specs.Tests.{hold, each}
use Rattle.bits.specs.Bits.{some}
use Rattle.setting.specs.declared.Setting.{Setting}
use Rattle.setting.specs.Values.{startable}
use Rattle.measuring.specs.declared.Reading.{Reading}
use Rattle.state.specs.declared.Element.{Element}
use Rattle.systems.specs.declared.Systems.{Systems}
use Rattle.state.specs.declared.Window.{Window}
use Rattle.state.specs.State.{number_within, latches_of}
use Rattle.page.specs.declared.Events.{Events}
use Rattle.page.specs.Events.{within, new}
use Rattle.page.specs.Page.{starts_of}

-- setting and window of a record that is admissible
pub record Held (v : Setting) (w : Window) : Type 0 where
  pub sound : T (startable v)
  pub few : w.fill ≤ 12
  pub small : T (each number_within w.values)

-- and its events
pub record HeldWith (v : Setting) (w : Window) (e : Events) : Type 0 where
  pub held : Held v w
  pub events : T (hold (within e))

-- no flag is raised, whatever started before: no system starts, and no latch is new
abbrev pub nothing_new : Systems Reading → (before after : Systems Element) → Bool
nothing_new m before after = not (some (starts_of m) || new (latches_of before) (latches_of after))
