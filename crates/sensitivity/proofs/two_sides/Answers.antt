-- `sensitivity::two_sides` states what Starting proves.
use Rattle.sensitivity.proofs.Starting.{two_sides}
use Rattle.sensitivity.proofs.two_sides.Goals as goal

pub returns : goal.returns
returns c = two_sides
