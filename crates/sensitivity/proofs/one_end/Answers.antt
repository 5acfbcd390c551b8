-- `sensitivity::one_end` states what Starting and Samples prove.
use Rattle.sensitivity.proofs.Starting.{one_end_starts}
use Rattle.sensitivity.proofs.Samples.{one_end_samples}
use Rattle.sensitivity.proofs.one_end.Goals as goal

pub returns : goal.returns
returns c = (one_end_starts, one_end_samples)
