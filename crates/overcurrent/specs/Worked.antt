-- A of an end, worked out by hand (§ Backup overcurrent 2).
use Rattle.std.specs.Prelude.{◌≡◌, refl, cond, List, [], ◌∷◌, ℕ, ltb, ℤ, pos, neg_ℤ}
use Rattle.integer.specs.Nearest.{nearest_away, nearest, floor}
use Rattle.integer.specs.Root.{root_by}
use Rattle.integer.specs.Sum.{sum}
use Rattle.lists.specs.Lists.{up_to}
use Rattle.amplitude.specs.Amplitude.{t, weighted_sum, cycle, amplitude}
use Rattle.measuring.specs.Numbers.{window}
use Rattle.overcurrent.specs.Watching.{largest}

-- six x, then six −x: of 100 the amplitude is 128 (§ Numbers to meet); of 200 c is 67 and s 249, and it is 257
square : ℕ → ℕ → ℤ
square x k = cond (ltb k 6) (pos x) (neg_ℤ (pos x))

-- A of end 0 with the larger current in system 2, and then in system 1; and A of end 1, which has no current
found : List ℕ
found = largest (window (square 100) (square 200)) 0 ∷ largest (window (square 200) (square 100)) 0 ∷ largest (window (square 100) (square 200)) 1 ∷ []

largest_met : found ≡ 257 ∷ 257 ∷ 0 ∷ []
unfolding found square window largest amplitude cycle weighted_sum t sum nearest_away nearest floor root_by up_to
largest_met = refl
