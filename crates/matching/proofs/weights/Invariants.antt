-- `matching::weights` meets its contract. The loop's invariant: the places of the ends before z hold their weights.
use Prim.Native.Nat.{◌*◌, ◌/◌, ◌%◌}
use lib.IntN.{pos}
use Rattle.lists.proofs.Fill.{Filled}
use Rattle.matching.specs.Weights.{single, weight_of}
use Rattle.matching.proofs.weights.Given as goal

abbrev pub invariant-loop-z : goal.invariant-loop-z
invariant-loop-z l = Filled (pos 0) 12 (λ j. weight_of l.fn.v (j / 3) (single (j % 3))) l.ws (3 * l.z)
