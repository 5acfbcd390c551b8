-- `stability::stability` states what Demand3 proves.
use Rattle.stability.proofs.Demand3.{stability}
use Rattle.stability.proofs.stability.Goals as goal

pub returns : goal.returns
returns c = stability
