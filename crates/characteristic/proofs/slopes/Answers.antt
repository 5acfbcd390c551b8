-- `characteristic::slopes` meets its contract, the statements of proofs/SlopeLaws.antt.
use Rattle.characteristic.proofs.SlopeLaws.{not_more_eager, falling_eager, fallen_eager}
use Rattle.characteristic.proofs.slopes.Goals as goal

pub returns : goal.returns
returns c = (not_more_eager, falling_eager, fallen_eager)
