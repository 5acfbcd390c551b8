-- `stability::turning`: by Turned.antt.
use Rattle.stability.proofs.Turned.{turning}
use Rattle.stability.proofs.turning.Goals as goal

pub returns : goal.returns
returns c = turning
