-- `stability::slopes` meets its contract, the law of proofs/SlopeLaws.antt.
use Rattle.stability.proofs.SlopeLaws.{falling_declined}
use Rattle.stability.proofs.slopes.Goals as goal

pub returns : goal.returns
returns c = falling_declined
