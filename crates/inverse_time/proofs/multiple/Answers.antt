-- `multiple` meets its contract.
use native.Mathlib.Omega.{arith}
use Rattle.inverse_time.specs.Timers.{multiple}
use Rattle.inverse_time.proofs.multiple.Goals as goal

pub returns : goal.returns
unfolding multiple
returns c = grind arith
