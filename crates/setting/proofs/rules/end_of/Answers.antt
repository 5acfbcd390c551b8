-- `setting::rules::end_of` meets its contract: each arm is the list's element at its number, and the last arm is that of 3.
use mathlib.Core.Path.{◌≡◌}
use native.Mathlib.Omega.{arith}
use Rattle.setting.proofs.rules.end_of.Goals as goal

pub returns-in_default : goal.returns-in_default
returns-in_default c = let e : c.args.z ≡ 3 = omega arith in rw e
