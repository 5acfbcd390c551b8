-- `measuring::combined` meets its contract. The loop's invariant: `sum` is the sum of the first k products.
use mathlib.Core.Path.{◌≡◌}
use lib.IntN.{pos, ◌*ℤ◌}
use lib.ListN.{get_or}
use Rattle.integer.specs.Sum as S
use Rattle.measuring.specs.Folded.{column}
use Rattle.measuring.proofs.combined.Given as goal

abbrev pub invariant-loop-k : goal.invariant-loop-k
invariant-loop-k l = l.sum ≡ S.sum l.k (λ j. get_or l.w j (pos 0) *ℤ column l.win l.i j)
