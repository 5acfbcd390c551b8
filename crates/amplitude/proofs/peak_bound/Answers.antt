-- `amplitude::peak_bound` meets its contract, which is the law of proofs/PeakLaws.antt.
use Rattle.amplitude.proofs.PeakLaws.{peak_bound}
use Rattle.amplitude.proofs.peak_bound.Goals as goal

pub returns : goal.returns
returns c = peak_bound
