-- `stability::apart` states what Apartness proves.
use Rattle.stability.proofs.Apartness.{page_apart}
use Rattle.stability.proofs.apart.Goals as goal

pub returns : goal.returns
returns c = page_apart
