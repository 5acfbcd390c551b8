-- The limits of D for a healthy bank. One computed test shows the arithmetic for every number of ends.
use mathlib.Core.Path.{◌≡◌}
use Prim.Native.Nat.{ℕ, ◌+◌, ◌-◌, ◌≤◌, ◌<◌}
use native.Mathlib.Omega.{arith}
use lib.Dec.{T, leb, leb→le}
use lib.IntN.{ℤ}
use Rattle.integer.specs.Within.{◌within◌}
use Rattle.lists.specs.Tests.{every}
use Rattle.integer.proofs.SumLaws.{weight}
use Rattle.lists.proofs.TestLaws.{every_at}
use Rattle.amplitude.specs.Amplitude.{t, amplitude}
use Rattle.amplitude.specs.Peak.{peak, PeakBound}
use Rattle.amplitude.proofs.Bounds.{most, bounded, amplitude-≤}

pub peak_small : (E : ℕ) → E ≤ 4 → peak E ≤ 91
peak_small E four = leb→le _ _ (every_at 5 (λ E. leb (peak E) 91) tt E (omega arith))

-- of E ends, whose sums are within b E
module _ (b : ℕ → ℕ) (holds : T (every 3 (λ k. bounded 1 (b (k + 2)) (peak (k + 2))))) (E : ℕ) (two : 2 ≤ E) (four : E ≤ 4) where
  peak-≤ : (u : ℕ → ℤ) → ((k : ℕ) → k < 12 → u k within b E) → amplitude 1 u ≤ peak E
  peak-≤ u h =
      let e : (E - 2) + 2 ≡ E = omega arith in
      amplitude-≤ 1 (b E) (peak E) u (rw e at (every_at 3 (λ k. bounded 1 (b (k + 2)) (peak (k + 2))) holds (E - 2) (omega arith))) h

-- b is the statement's
pub peak_bound : PeakBound
unfolding PeakBound bounded most weight t
peak_bound = peak-≤ _ tt
