-- A system fed from one end. Of a sum over the ends one term is left, so D is the amplitude of that end. With two ends R is that of the end or of its
-- numbers negated, which is the same (card 1); with more it is a sum of amplitudes, of which all others are zero.
use mathlib.Core.Path.{◌≡◌, refl, ◌∙◌}
use mathlib.Core.Logic.{◌≢◌}
use mathlib.Core.Bool.{Bool, true, false, cond}
use mathlib.Core.List.{List}
use Prim.Native.Nat.{ℕ, zero, suc, ◌<◌}
use native.Mathlib.Decide.{ℕ_discrete}
use native.Mathlib.Omega.{arith}
use lib.Dec.{eqb}
use lib.IntN.{ℤ}
use borrow.Author.Tests.{eqb-true}
use Rattle.integer.proofs.Reading.{ints}
use Rattle.integer.proofs.SumLaws.{sum_only}
use Rattle.matching.specs.Sets.{System}
use Rattle.amplitude.specs.Amplitude.{amplitude}
use Rattle.amplitude.proofs.Same.{amplitude_same, amplitude_zero}
use Rattle.amplitude.proofs.Negated.{amplitude_negated}
use Rattle.measuring.specs.Window.{at, series, sums, difference}
use Rattle.measuring.specs.Measuring.{sumℕ, twice_restraint}
use Rattle.measuring.specs.OneEnd.{FedFrom}
use Rattle.measuring.proofs.PartLaws.{restraint_is}

-- ---- a sum of which one term is left

sumℕ_zero : (f : ℕ → ℕ) (n : ℕ) → ((k : ℕ) → k < n → f k ≡ 0) → sumℕ n f ≡ 0
sumℕ_zero f zero h = refl
sumℕ_zero f (suc n) h = omega (arith, sumℕ_zero f n (λ k l. h k (omega arith)), h n (omega arith))

sumℕ_only : (f : ℕ → ℕ) (z n : ℕ) → z < n → ((k : ℕ) → k < n → k ≢ z → f k ≡ 0) → sumℕ n f ≡ f z
sumℕ_only f z zero l h = absurd (omega arith)
sumℕ_only f z (suc n) l h = by (ℕ_discrete n z) (λ d. sumℕ_only f z n (omega arith) (λ k m. h k (omega arith)))
  where
    by : Dec (n ≡ z) → (n ≢ z → sumℕ n f ≡ f z) → sumℕ (suc n) f ≡ f z
    by (yes e) below = rw (sumℕ_zero f n (λ k m. h k (omega arith) (omega arith)), e) (omega arith)
    by (no d) below = omega (arith, h n (omega arith) d, below d)

-- ---- D and R

module _ (E : ℕ) (win : List ℤ) (l : System) (z : ℕ) (fed : FedFrom E win l z) where
  pub d_is : amplitude 1 (sums E win l) ≡ amplitude 1 (series win z l)
  d_is =
      amplitude_same (sums E win l) (series win z l) (λ k m. sum_only (λ e. at win k e l) z E fed.in_use (λ e u d. fed.others_zero k e m u d)) 1

  -- with two ends: end 0, or end 1 negated
  between_is : E ≡ 2 → (y : ℕ) → y ≡ z → amplitude 1 (difference win l) ≡ amplitude 1 (series win y l)
  between_is two zero e =
      amplitude_same (difference win l) (series win 0 l) (λ k m. rw (fed.others_zero k 1 m (omega arith) (omega arith)) (simp ints (omega arith))) 1
  between_is two (suc zero) e =
      amplitude_negated (difference win l) (series win 1 l) (λ k m. rw (fed.others_zero k 0 m (omega arith) (omega arith)) (simp ints (omega arith))) 1
  between_is two (suc (suc y)) e = absurd (omega (arith, fed.in_use))

  pub r_is : twice_restraint E win l ≡ amplitude 1 (series win z l)
  r_is = restraint_is E win l ∙ by (eqb E 2) refl
    where
      ends : ℕ
      ends = sumℕ E (λ e. amplitude 1 (series win e l))

      by : (b : Bool) → eqb E 2 ≡ b → cond b (amplitude 1 (difference win l)) ends ≡ amplitude 1 (series win z l)
      by true e = between_is (eqb-true E 2 e) z refl
      by false e =
          sumℕ_only (λ e. amplitude 1 (series win e l)) z E fed.in_use (λ e u d. amplitude_zero (series win e l) (λ k m. fed.others_zero k e m u d))
