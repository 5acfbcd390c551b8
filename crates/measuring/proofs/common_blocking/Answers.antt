-- `measuring::common_blocking` meets its contract, which is the law of proofs/Holding.antt.
use Rattle.measuring.proofs.Holding.{common_blocking}
use Rattle.measuring.proofs.common_blocking.Goals as goal

pub returns : goal.returns
returns c = common_blocking
