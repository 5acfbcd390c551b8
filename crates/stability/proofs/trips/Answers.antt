-- `stability::trips` states what TripLaws proves.
use Rattle.stability.proofs.TripLaws.{latched, counted}
use Rattle.stability.proofs.trips.Goals as goal

pub returns : goal.returns
returns c = (latched, counted)
