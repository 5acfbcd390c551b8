-- `matching::numbers` meets its contract. The loop's invariant: the places of the ends before z hold their numbers.
use Prim.Native.Nat.{◌*◌, ◌/◌, ◌%◌}
use lib.IntN.{pos}
use Rattle.lists.proofs.Fill.{Filled}
use Rattle.matching.specs.Sets.{system, place_of}
use Rattle.matching.proofs.numbers.Given as goal

abbrev pub invariant-loop-z : goal.invariant-loop-z
invariant-loop-z l = Filled (pos 0) 12 (λ j. place_of l.fn.v l.fn.set (j / 3) (system (j % 3))) l.h (3 * l.z)
