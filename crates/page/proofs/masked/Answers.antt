-- `page::masked` meets its contract.
use mathlib.Core.Path.{refl}
use Rattle.page.specs.Events.{masked}
use Rattle.page.proofs.masked.Goals as goal

pub returns : goal.returns
unfolding masked
returns c = refl
