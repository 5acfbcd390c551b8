-- `page::lowered` meets its contract, by those of its callees.
use Rattle.page.specs.Events.{lowered}
use Rattle.page.proofs.lowered.Goals as goal

pub returns : goal.returns
unfolding lowered
returns c = rw (c.from-3.ensures, c.sub.ensures, c.from.ensures, c.from-2.ensures)
