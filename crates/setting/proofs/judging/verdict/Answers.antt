-- `setting::judging::verdict` meets its contract: no fields beside those of the values.
use mathlib.Core.Path.{refl}
use mathlib.Core.List.{[], append-nil}
use Rattle.setting.proofs.judging.verdict.Goals as goal

pub returns : goal.returns
returns c = rw append-nil at (c.verdict_beside.ensures [] refl)
