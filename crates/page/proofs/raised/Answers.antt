-- `page::raised` meets its contract, by those of its callees.
use Rattle.page.specs.Events.{raised}
use Rattle.page.proofs.raised.Goals as goal

pub returns : goal.returns
unfolding raised
returns c = rw (c.from-2.ensures, c.bitor.ensures, c.from.ensures)
