-- What a planner asks of a pick-up and a curve (§ Backup overcurrent): below which current no sum grows, and after how many sets it trips.
use Rattle.std.specs.Prelude.{◌≡◌, ◌↔◌, true, List, ℕ, ◌*◌, ◌≤◌, ◌<◌, replicate}
use Rattle.lists.specs.Tests.{Each}
use Rattle.inverse_time.specs.declared.curves.Curve.{Curve}
use Rattle.inverse_time.specs.Curves.{entry, LeastAtLeast}
use Rattle.inverse_time.specs.Timers.{multiple, most_sum, growth, idle}
use Rattle.inverse_time.specs.Rows.{after_sets}

-- j is below 11 exactly where A is below 1.1·X
unfoldable pub PickUp : Type 0
PickUp = (X A : ℕ) → 1 ≤ X → (multiple X A < 11) ↔ (10 * A < 11 * X)

-- where it is at every set, the sum stays cleared and the element does not trip
unfoldable pub Unmoved : Type 0
Unmoved = (c : Curve) (js : List ℕ) → Each (λ j. j < 11) js → after_sets c js ≡ idle

-- An end held at a constant j from a cleared sum trips at its n-th set, no sooner and no later, n being the least number with n·(1,000,000,000 / entry) at
-- least 1,000,000,000; and n is never below the entry.
pub record Held (c : Curve) (j : ℕ) : Type 0 where
  pub n : ℕ
  pub is : LeastAtLeast most_sum (growth c j) n
  pub trips : (sets : ℕ) → ((after_sets c (replicate sets j)).trip ≡ true) ↔ (n ≤ sets)
  pub not_below : entry c j ≤ n

unfoldable pub HeldTrips : Type 0
HeldTrips = (c : Curve) (j : ℕ) → 11 ≤ j → j ≤ 200 → Held c j
