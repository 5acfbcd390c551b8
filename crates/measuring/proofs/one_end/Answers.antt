-- `measuring::one_end` meets its contract, which is the law of proofs/OneEnd.antt.
use Rattle.measuring.proofs.OneEnd.{one_end_amplitude}
use Rattle.measuring.proofs.one_end.Goals as goal

pub returns : goal.returns
returns c = one_end_amplitude
