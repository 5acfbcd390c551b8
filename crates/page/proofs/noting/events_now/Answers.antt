-- `page::noting::events_now` meets its contract: the flag of a start may be left out where it is raised.
use mathlib.Core.Path.{refl, ◌∙◌}
use mathlib.Core.Bool.{false}
use Rattle.state.specs.State.{latches_of}
use Rattle.page.specs.Events.{new_flags}
use Rattle.page.specs.Page.{starts_of, shown}
use Rattle.page.proofs.EventLaws.{raised_alike}
use Rattle.page.proofs.noting.events_now.Goals as goal

pub returns : goal.returns
returns c =
    let a = c.args in
    let new-trips = rw (c.latches.ensures, c.latches-2.ensures) at c.is_new.ensures in
    c.raised.ensures
    ∙ raised_alike a.e (record { b0 = c.new_start.result; b1 = c.is_new.result; b2 = false })
    (new_flags (starts_of (shown a.v a.w)) (starts_of a.m) (latches_of a.before) (latches_of a.after))
    c.new_start.ensures new-trips refl
