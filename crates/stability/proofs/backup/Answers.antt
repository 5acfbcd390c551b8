-- `stability::backup` states what TimerLaws proves.
use Rattle.stability.proofs.TimerLaws.{summed, timer_tripped, none_trips}
use Rattle.stability.proofs.backup.Goals as goal

pub returns : goal.returns
returns c = (summed, timer_tripped, none_trips)
