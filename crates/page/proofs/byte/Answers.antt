-- `page::byte` meets its contract, by the offset.
use mathlib.Core.Path.{◌∙◌}
use Rattle.page.specs.Page.{page}
use Rattle.page.proofs.byte.Goals as goal

pub returns-in-0 : goal.returns-in-0
unfolding page
returns-in-0 c = c.from.ensures ∙ rw (c.latches.ensures, c.in-0.is)

pub returns-in-1 : goal.returns-in-1
unfolding page
returns-in-1 c = c.from-in-1.ensures ∙ rw (c.starts.ensures, c.in-1.is)

pub returns-in-2 : goal.returns-in-2
unfolding page
returns-in-2 c = c.from-in-2.ensures ∙ rw (c.blocks-in-2.ensures, c.in-2.is)

pub returns-in-3 : goal.returns-in-3
unfolding page
returns-in-3 c = rw c.in-3.is

pub returns-in-4 : goal.returns-in-4
unfolding page
returns-in-4 c = rw c.in-4.is

pub returns-in-5 : goal.returns-in-5
unfolding page
returns-in-5 c = c.interrupt.ensures ∙ rw c.in-5.is
