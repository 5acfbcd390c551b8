-- `measuring::Folded::over_ends` meets its contract: the sum over two, three or four ends, term by term.
use mathlib.Core.Path.{◌≡◌}
use native.Mathlib.Omega.{arith}
use Rattle.measuring.specs.Folded.{over_ends}
use Rattle.measuring.proofs.PartLaws.{over_fits, over_read, over_two, over_more}
use Rattle.measuring.proofs.Folded.over_ends.Goals as goal

pub returns-then-self-eq2 : goal.returns-then-self-eq2
unfolding over_ends
returns-then-self-eq2 c =
    let like = c.args.self.now.like in
    rw c.if-self-eq2.true (over_read like _ _ 2 (omega arith) (over_two like _ _ c.at.ensures c.at-2.ensures))

pub returns-then-self-eq3 : goal.returns-then-self-eq3
unfolding over_ends
returns-then-self-eq3 c =
    let like = c.args.self.now.like in
    let two = over_two like _ _ c.at.ensures c.at-2.ensures in
    rw c.if-self-eq3.true (over_read like _ _ 3 (omega arith) (over_more like _ _ 2 (omega arith) two c.at-3.ensures))

pub overflow_add-result : goal.overflow_add-result
overflow_add-result c =
    let like = c.args.self.now.like in
    let two = over_two like _ _ c.at.ensures c.at-2.ensures in
    let three = over_more like _ _ 2 (omega arith) two c.at-3.ensures in
    over_fits like _ _ 4 (omega arith) (over_more like _ _ 3 (omega arith) three c.at-4.ensures)

pub returns : goal.returns
unfolding over_ends
returns c =
    let like = c.args.self.now.like in
    let two = over_two like _ _ c.at.ensures c.at-2.ensures in
    let three = over_more like _ _ 2 (omega arith) two c.at-3.ensures in
    let used = c.args.self.now.used in
    let four : c.args.self.now.ends ≡ 4 = omega (arith, used.two, used.four, c.if-self-eq2.false, c.if-self-eq3.false) in
    rw four (over_read like _ _ 4 (omega arith) (over_more like _ _ 3 (omega arith) three c.at-4.ensures))
