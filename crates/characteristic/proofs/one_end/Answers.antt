-- `characteristic::one_end` meets its contract, the statements of proofs/OneEnd.antt.
use Rattle.characteristic.proofs.OneEnd.{starts_above_P, blind_by_slope_1, blind_by_slope_2}
use Rattle.characteristic.proofs.one_end.Goals as goal

pub returns : goal.returns
returns c = (starts_above_P, blind_by_slope_1, blind_by_slope_2)
