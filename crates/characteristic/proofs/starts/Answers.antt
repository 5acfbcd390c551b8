-- `characteristic::starts` meets its contract: the branch that is taken says which of the three sections applies.
use mathlib.Core.Path.{sym}
use native.Mathlib.Nat.{add-zero}
use native.Mathlib.Omega.{arith}
use Rattle.characteristic.proofs.Sections.{in_first, in_second, in_third}
use Rattle.characteristic.proofs.starts.Goals as goal

pub returns-then-r-p : goal.returns-then-r-p
returns-then-r-p c = rw c.from-p.ensures (sym (in_first c.args.v _ _ (omega arith) (omega arith)))

pub returns-then-r-q : goal.returns-then-r-q
returns-then-r-q c = rw (c.past.ensures, add-zero, c.from-p.ensures) (sym (in_second c.args.v _ _ (omega arith) (omega arith)))

pub returns : goal.returns
returns c = rw (c.past-2.ensures, c.from-p.ensures, c.from-q.ensures) (sym (in_third c.args.v _ _ (omega arith) (omega arith)))
