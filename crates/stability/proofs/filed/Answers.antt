-- `stability::filed`: demand 2 over the list, by Demand2.antt.
use Rattle.stability.proofs.Demand2.{setting_kept, window_filed, answered, reset_accepted, read_answered, write_answered}
use Rattle.stability.proofs.filed.Goals as goal

pub returns : goal.returns
returns c = (setting_kept, window_filed, answered, reset_accepted, read_answered, write_answered)
