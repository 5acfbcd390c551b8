-- `integer::all_within` meets its contract. The loop's invariant: so far, whether all are within the bound.
use Rattle.std.proofs.Common.{◌≡◌, leb, nat_abs, take}
use Rattle.lists.specs.Tests.{each}
use Rattle.integer.proofs.all_within.Given as goal

abbrev pub invariant-loop-x : goal.invariant-loop-x
invariant-loop-x l = l.all ≡ each (λ x. leb (nat_abs x) l.most) (take l.x-index l.numbers)
