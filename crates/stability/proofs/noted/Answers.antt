-- `stability::noted` states what FlagLaws proves.
use Rattle.stability.proofs.FlagLaws.{noted}
use Rattle.stability.proofs.noted.Goals as goal

pub returns : goal.returns
returns c = noted
