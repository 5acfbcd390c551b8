-- `block::by_columns` meets its contract. The invariant of both loops is `Added`: what the sums say of the bytes so far, and how large they can be; the
-- outer loop is at the start of a row.
use native.Mathlib.Omega.{arith}
use Rattle.block.proofs.ColumnLaws.{added_none, added_more, added_row, added_all}
use Rattle.block.proofs.by_columns.Goals as goal

pub loop-row-init : goal.loop-row-init
loop-row-init c = added_none c.args.s.now

pub loop-j-preserved : goal.loop-j-preserved
loop-j-preserved c =
    added_more c.loop-j.invariant c.loop-j-test.true (omega arith) c.requires c.from.ensures (omega arith)

pub loop-row-preserved : goal.loop-row-preserved
loop-row-preserved c = added_row c.loop-j.invariant (omega arith) (omega arith)

pub returns : goal.returns
returns c = added_all c.loop-row.invariant (omega arith)
