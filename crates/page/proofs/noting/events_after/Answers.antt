-- `page::noting::events_after` meets its contract: with nothing new the events are as they were.
use mathlib.Core.Path.{sym, ◌∙◌}
use Rattle.page.specs.Page.{starts_of, shown}
use Rattle.page.proofs.Noted.{nothing_raised}
use Rattle.page.proofs.noting.events_after.Goals as goal

pub returns-then-nothing_new : goal.returns-then-nothing_new
returns-then-nothing_new c =
    let a = c.args in
    nothing_raised a.e c.requires.events (starts_of (shown a.v a.w)) a.m a.before a.after (sym c.nothing_new.ensures ∙ c.if-nothing_new.true)
