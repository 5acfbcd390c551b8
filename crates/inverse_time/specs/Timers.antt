-- The inverse-time element of an end, at a measured set (§ Backup overcurrent).
use Rattle.std.specs.Prelude.{false, ◌||◌, cond, ℕ, ◌+◌, ◌*◌, ◌/◌, ◌≤◌, min, ltb, eqb}
use Rattle.inverse_time.specs.declared.Timer.{Timer}
use Rattle.inverse_time.specs.declared.curves.Curve.{Curve}
use Rattle.inverse_time.specs.Curves.{entry}

-- j = 10·A / X without remainder; above 200, j is 200 (§ Backup overcurrent 2)
unfoldable pub multiple : (X A : ℕ) → ℕ
multiple X A = min 200 (10 * A / X)

-- the sum at which the element trips
abbrev pub most_sum : ℕ
most_sum = 1000000000

-- 1,000,000,000 divided by the table entry, without remainder
unfoldable pub growth : Curve → (j : ℕ) → ℕ
growth c j = most_sum / entry c j

-- below 11 the sum is cleared; from 11 up it grows, and stops at 1,000,000,000 (§ Backup overcurrent 3)
unfoldable pub sum_after : Curve → (j sum : ℕ) → ℕ
sum_after c j s = cond (ltb j 11) 0 (min most_sum (s + growth c j))

-- where the element trips, and stays tripped (§ Backup overcurrent 5)
unfoldable pub timer_after : Curve → (j : ℕ) → Timer → Timer
timer_after c j t = record { sum = sum_after c j t.sum; trip = t.trip || eqb (sum_after c j t.sum) most_sum }

abbrev pub idle : Timer
idle = record { sum = 0; trip = false }

-- ---- what the code takes

-- a pick-up that divides, an amplitude as large as one may be, and a sum that may stand in a record
pub record TimerInput (X A : ℕ) (t : Timer) : Type 0 where
  pub pickup : 1 ≤ X
  pub small : A ≤ 32000000
  pub sum : t.sum ≤ most_sum
