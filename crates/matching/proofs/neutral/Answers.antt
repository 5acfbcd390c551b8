-- `matching::neutral` meets its contract: the two laws of proofs/NeutralLaws.antt.
use Rattle.matching.proofs.NeutralLaws.{widened, neutral_before}
use Rattle.matching.proofs.neutral.Goals as goal

pub returns : goal.returns
returns c = (widened, neutral_before)
