-- `setting::rules::lowest_given` meets its contract: it has no code.
use Rattle.setting.proofs.LowestLaws.{lowest_given}
use Rattle.setting.proofs.rules.lowest_given.Goals as goal

pub returns : goal.returns
returns c = lowest_given
