-- `characteristic::quiet_bound` meets its contract, which is the law of proofs/Bound.antt.
use Rattle.characteristic.proofs.Bound.{quiet_bound}
use Rattle.characteristic.proofs.quiet_bound.Goals as goal

pub returns : goal.returns
returns c = quiet_bound
