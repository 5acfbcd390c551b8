-- `setting::judging::slopes` meets its contract, the two statements.
use Rattle.setting.proofs.SlopeLaws.{startable_only, start_after_reading}
use Rattle.setting.proofs.judging.slopes.Goals as goal

pub returns : goal.returns
returns c = (startable_only, start_after_reading)
