-- `measuring::Folded::new` meets its contract. The loop's invariant: after i turns the first 6·i stores are done, those of part p and number j for j < i.
use Prim.Native.Nat.{◌*◌}
use Rattle.measuring.proofs.PartLaws.{Placed}
use Rattle.measuring.proofs.Folded.new.Given as goal

abbrev pub invariant-loop-i : goal.invariant-loop-i
invariant-loop-i l = Placed l.win l.parts (6 * l.i)
