-- `characteristic::blocking` meets its contract, by those of its callees.
use Rattle.characteristic.specs.Characteristic.{holds_back, held_by}
use Rattle.characteristic.proofs.blocking.Goals as goal

pub returns-then-own : goal.returns-then-own
unfolding held_by holds_back
returns-then-own c = rw (← c.harmonics-own.ensures, c.if-own.true, c.from.ensures)

pub returns-else-own : goal.returns-else-own
unfolding held_by holds_back
returns-else-own c = rw (← c.harmonics-own.ensures, c.if-own.false)
