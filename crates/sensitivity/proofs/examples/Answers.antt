-- `sensitivity::examples` states what Seen proves.
use Rattle.sensitivity.proofs.Seen.{steepest_seen}
use Rattle.sensitivity.proofs.examples.Goals as goal

pub returns : goal.returns
returns c = steepest_seen
