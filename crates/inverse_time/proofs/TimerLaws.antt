-- Laws of an end's sum and trip at a measured set.
use mathlib.Core.Path.{◌≡◌}
use mathlib.Core.Bool.{Bool, true, false, cond}
use Prim.Native.Nat.{ℕ, ◌+◌, ◌≤◌, ◌<◌, min}
use native.Mathlib.Omega.{arith}
use lib.Dec.{ltb}
use borrow.Author.Tests.{lt-ltb}
use Rattle.inverse_time.specs.declared.Timer.{Timer}
use Rattle.inverse_time.specs.declared.curves.Curve.{Curve}
use Rattle.inverse_time.specs.Timers.{most_sum, growth, sum_after, timer_after, idle}

-- a cleared sum stays so below 11
pub idle_stays : (c : Curve) (j : ℕ) → j < 11 → timer_after c j idle ≡ idle
unfolding timer_after sum_after
idle_stays c j h = rw (lt-ltb j 11 h)

pub sum_stays_within : (c : Curve) (j : ℕ) (t : Timer) → (timer_after c j t).sum ≤ most_sum
unfolding timer_after sum_after
sum_stays_within c j t = by (ltb j 11)
  where
    by : (u : Bool) → cond u 0 (min most_sum (t.sum + growth c j)) ≤ most_sum
    by true = omega arith
    by false = omega arith
