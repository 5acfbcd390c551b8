-- `block::add_up` meets its contract. The loop's invariant: a and b are the sums of the first j columns, and no larger than j of 16 bits make them.
use borrow.Author.Rules.{rules}
use Prim.Native.Nat.{◌<◌}
use native.Mathlib.Omega.{arith}
use lib.ListN.{length, get_or}
use mir.Syntax.{w16}
use mir.Val.{Fits}
use Rattle.block.specs.Columns.{total, weighed}
use Rattle.block.proofs.ColumnLaws.{total_next, weighed_next}
use Rattle.block.proofs.add_up.Goals as goal

pub loop-j-init : goal.loop-j-init
unfolding total weighed
loop-j-init c = search rules

pub loop-j-preserved : goal.loop-j-preserved
loop-j-preserved c =
    let sums = c.args.c.sums in
    let rows = c.args.c.rows in
    let j = c.loop-j.j in
    let in-sums : j < length sums = search rules in
    let in_rows : j < length rows = search rules in
    let sum : Fits w16 (get_or sums j 0) = search rules in
    let row : Fits w16 (get_or rows j 0) = search rules in
    let a = total_next sums j in-sums in
    let b = weighed_next sums j in-sums in
    let d = total_next rows j in_rows in (
      omega arith,
      omega arith,
      omega arith,
      omega arith,
    )
