-- `block::check_sums` meets its contract: what `add_up` ensures, at what `by_columns` ensures.
use mathlib.Core.Path.{◌∙◌}
use Rattle.block.proofs.check_sums.Goals as goal

pub returns : goal.returns
returns c = c.add_up.ensures ∙ c.by_columns.ensures
