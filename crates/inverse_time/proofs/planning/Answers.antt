-- `planning` states what PlanningLaws proves.
use Rattle.inverse_time.proofs.PlanningLaws.{pick_up, unmoved, held_trips}
use Rattle.inverse_time.proofs.planning.Goals as goal

pub returns : goal.returns
returns c = (pick_up, (unmoved, held_trips))
