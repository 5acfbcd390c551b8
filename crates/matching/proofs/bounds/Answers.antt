-- `matching::bounds` meets its contract: the two bounds of proofs/Total.antt.
use Rattle.matching.proofs.Total.{total_bound, matched_bound}
use Rattle.matching.proofs.bounds.Goals as goal

pub returns : goal.returns
returns c = (total_bound, matched_bound)
