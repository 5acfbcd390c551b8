-- `block::by_columns` meets its contract. The invariant of both loops is `Added`: what the sums say of the bytes so far, and how large they can be; the
-- outer loop is at the start of a row.
use Prim.Native.Nat.{◌*◌}
use Rattle.block.proofs.ColumnLaws.{Added}
use Rattle.block.proofs.by_columns.Given as goal

abbrev pub invariant-loop-j : goal.invariant-loop-j
invariant-loop-j l = Added l.s l.sums l.rows (34 * l.row) l.j

abbrev pub invariant-loop-row : goal.invariant-loop-row
invariant-loop-row l = Added l.s l.sums l.rows (34 * l.row) 0
