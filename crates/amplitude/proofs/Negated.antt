-- Twelve numbers negated (card 1): c and s are negated, and the amplitude is the same.
use mathlib.Core.Path.{◌≡◌, ◌∙◌}
use Prim.Native.Nat.{ℕ, ◌+◌, ◌*◌, ◌%◌, ◌<◌}
use native.Mathlib.Omega.{arith}
use lib.IntN.{ℤ, neg_ℤ, ◌*ℤ◌}
use Rattle.integer.proofs.Laws.{*ℤ-negℤ, nat_abs_neg}
use Rattle.integer.proofs.HalfUnit.{nearest_away_neg}
use Rattle.integer.proofs.SumLaws.{sum_same, sum_neg}
use Rattle.amplitude.specs.Amplitude.{t, weighted_sum, cycle, amplitude}

module _ (f g : ℕ → ℤ) (negated : (k : ℕ) → k < 12 → f k ≡ neg_ℤ (g k)) where
  sum_negated : (h from : ℕ) → weighted_sum h from f ≡ neg_ℤ (weighted_sum h from g)
  unfolding weighted_sum
  sum_negated h from =
      let w : ℕ → ℤ = λ k. t ((h * k + from) % 12) in
      sum_same (λ k. w k *ℤ f k) (λ k. neg_ℤ (w k *ℤ g k)) 12 (λ k l. rw (negated k l) (*ℤ-negℤ (w k) (g k))) ∙ sum_neg (λ k. w k *ℤ g k) 12

  pub cycle_negated : (h from : ℕ) → cycle h from f ≡ neg_ℤ (cycle h from g)
  unfolding cycle
  cycle_negated h from = rw (sum_negated h from) (nearest_away_neg (weighted_sum h from g) 9360 (omega arith))

  pub amplitude_negated : (h : ℕ) → amplitude h f ≡ amplitude h g
  unfolding amplitude
  amplitude_negated h = rw (cycle_negated h 0, cycle_negated h 9, nat_abs_neg (cycle h 0 g), nat_abs_neg (cycle h 9 g))
