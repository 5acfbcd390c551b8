-- `sensitivity::trips` states what TripLaws proves.
use Rattle.sensitivity.proofs.TripLaws.{one_end_trips, blocking_off_trips, high_set_trips, stays_latched}
use Rattle.sensitivity.proofs.trips.Goals as goal

pub returns : goal.returns
returns c = (one_end_trips, blocking_off_trips, high_set_trips, stays_latched)
