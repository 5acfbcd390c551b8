-- `integer::root` meets its contract. The loop's invariant: r is not below the root of x and at most 2 ^ 32 - 1, which keeps its square within 64 bits,
-- and the turns so far and those from r on make those of x. The measure is r, which a step from above the root lowers.
use mathlib.Core.Path.{◌≡◌}
use Prim.Native.Nat.{ℕ, ◌+◌, ◌*◌, ◌≤◌, ◌<◌}
use Rattle.integer.specs.Root.{most, turns_at, turns}
use Rattle.integer.proofs.root.Given as goal

-- what holds of x, r and the count before each turn
pub record Above (x r count : ℕ) : Type 0 where
  pub high : x < (r + 1) * (r + 1)
  pub small : r ≤ most
  pub counted : count + turns_at x r ≡ turns x

abbrev pub invariant-loop-r : goal.invariant-loop-r
invariant-loop-r l = Above l.x l.r l.turns

abbrev pub decreases-loop-r : goal.decreases-loop-r
decreases-loop-r l = l.r
