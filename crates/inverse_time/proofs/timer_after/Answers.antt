-- `timer_after` meets its contract: tripped already, or not.
use borrow.Author.Rules.{rules}
use Rattle.inverse_time.specs.Timers.{multiple, timer_after}
use Rattle.inverse_time.proofs.timer_after.Goals as goal

pub sum_after-sum-requires : goal.sum_after-sum-requires
unfolding multiple
sum_after-sum-requires c = search rules

pub returns-then-t : goal.returns-then-t
unfolding timer_after
returns-then-t c = simp (c.if-t.true, c.sum_after-sum.ensures, c.multiple.ensures)

pub returns-else-t : goal.returns-else-t
unfolding timer_after
returns-else-t c = simp (c.if-t.false, c.sum_after-sum.ensures, c.multiple.ensures)
