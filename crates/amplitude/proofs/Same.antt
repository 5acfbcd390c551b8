-- The amplitude looks at twelve numbers only: it is the same for two windows that agree below 12, and zero where those are.
use mathlib.Core.Path.{◌≡◌, refl, ◌∙◌}
use Prim.Native.Nat.{ℕ, ◌+◌, ◌*◌, ◌%◌, ◌<◌}
use lib.IntN.{ℤ, pos, ◌*ℤ◌}
use Rattle.integer.specs.Nearest.{nearest_away, nearest, floor}
use Rattle.integer.specs.Root.{root_by}
use Rattle.integer.specs.Sum.{sum}
use Rattle.integer.proofs.SumLaws.{sum_same}
use Rattle.amplitude.specs.Amplitude.{t, weighted_sum, cycle, amplitude}

module _ (f g : ℕ → ℤ) (same : (k : ℕ) → k < 12 → f k ≡ g k) where
  sum_alike : (h from : ℕ) → weighted_sum h from f ≡ weighted_sum h from g
  unfolding weighted_sum
  sum_alike h from =
      sum_same (λ k. t ((h * k + from) % 12) *ℤ f k) (λ k. t ((h * k + from) % 12) *ℤ g k) 12 (λ k l. rw (same k l))

  pub amplitude_same : (h : ℕ) → amplitude h f ≡ amplitude h g
  unfolding amplitude cycle
  amplitude_same h = rw (sum_alike h 0, sum_alike h 9)

of_zeros : amplitude 1 (λ k. pos 0) ≡ 0
unfolding amplitude cycle weighted_sum sum t nearest_away nearest floor root_by
of_zeros = refl

pub amplitude_zero : (f : ℕ → ℤ) → ((k : ℕ) → k < 12 → f k ≡ pos 0) → amplitude 1 f ≡ 0
amplitude_zero f zeros = amplitude_same f (λ k. pos 0) zeros 1 ∙ of_zeros
