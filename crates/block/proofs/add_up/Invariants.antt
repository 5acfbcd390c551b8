-- `block::add_up` meets its contract. The loop's invariant: a and b are the sums of the first j columns, and no larger than j of 16 bits make them.
use mathlib.Core.Path.{◌≡◌}
use Prim.Native.Nat.{◌+◌, ◌*◌, ◌≤◌}
use lib.ListN.{take}
use Rattle.block.specs.Columns.{total, weighed}
use Rattle.block.proofs.add_up.Given as goal

abbrev pub invariant-loop-j : goal.invariant-loop-j
invariant-loop-j l = (l.a ≤ 65535 * l.j) × (l.b ≤ 4456380 * l.j) × (l.a ≡ total (take l.j l.c.sums)) × (l.b ≡ weighed (take l.j l.c.sums) + 34 * total (take l.j l.c.rows))
