-- Laws of sums: of sums, differences, negated terms and multiples, of equal terms, of one term that is left, and bounds on the size.
use mathlib.Core.Path.{◌≡◌, refl}
use mathlib.Core.Logic.{◌≢◌}
use Prim.Native.Nat.{ℕ, zero, suc, ◌+◌, ◌*◌, ◌<◌}
use native.Mathlib.Decide.{ℕ_discrete}
use native.Mathlib.Numerals.{add-one}
use native.Mathlib.Omega.{arith}
use lib.IntN.{ℤ, pos, neg_ℤ, nat_abs, ◌+ℤ◌, ◌*ℤ◌, ◌-ℤ◌}
use Rattle.integer.specs.Within.{◌within◌}
use Rattle.integer.specs.Sum.{sum}
use Rattle.integer.proofs.Reading.{ints}
use Rattle.integer.proofs.Laws.{within-≤, within-+, within-*, within_self}

pub sum_next : (n : ℕ) (f : ℕ → ℤ) → sum (n + 1) f ≡ sum n f +ℤ f n
unfolding sum
sum_next n f = rw add-one

pub sum_same : (f g : ℕ → ℤ) (n : ℕ) → ((k : ℕ) → k < n → f k ≡ g k) → sum n f ≡ sum n g
unfolding sum
sum_same f g zero h = refl
sum_same f g (suc n) h = rw (sum_same f g n (λ k l. h k (omega arith)), h n (omega arith))

pub sum-+ : (f g : ℕ → ℤ) (n : ℕ) → sum n (λ k. f k +ℤ g k) ≡ sum n f +ℤ sum n g
unfolding sum
sum-+ f g zero = refl
sum-+ f g (suc n) = rw (sum-+ f g n) (simp ints (omega arith))

pub sum-- : (f g : ℕ → ℤ) (n : ℕ) → sum n (λ k. f k -ℤ g k) ≡ sum n f -ℤ sum n g
unfolding sum
sum-- f g zero = refl
sum-- f g (suc n) = rw (sum-- f g n) (simp ints (omega arith))

pub sum_neg : (f : ℕ → ℤ) (n : ℕ) → sum n (λ k. neg_ℤ (f k)) ≡ neg_ℤ (sum n f)
unfolding sum
sum_neg f zero = refl
sum_neg f (suc n) = rw (sum_neg f n) (simp ints (omega arith))

pub sum_times : (a : ℤ) (f : ℕ → ℤ) (n : ℕ) → sum n (λ k. a *ℤ f k) ≡ a *ℤ sum n f
unfolding sum
sum_times a f zero = simp ints (omega arith)
sum_times a f (suc n) = rw (sum_times a f n) (simp ints (omega arith))

-- terms that are all zero, or all but one
sum_zero : (f : ℕ → ℤ) (n : ℕ) → ((k : ℕ) → k < n → f k ≡ pos 0) → sum n f ≡ pos 0
unfolding sum
sum_zero f zero h = refl
sum_zero f (suc n) h = rw (sum_zero f n (λ k l. h k (omega arith)), h n (omega arith))

pub sum_only : (f : ℕ → ℤ) (z n : ℕ) → z < n → ((k : ℕ) → k < n → k ≢ z → f k ≡ pos 0) → sum n f ≡ f z
unfolding sum
sum_only f z zero l h = absurd (omega arith)
sum_only f z (suc n) l h = by (ℕ_discrete n z) (λ d. sum_only f z n (omega arith) (λ k m. h k (omega arith)))
  where
    by : Dec (n ≡ z) → (n ≢ z → sum n f ≡ f z) → sum (suc n) f ≡ f z
    by (yes e) below = rw (sum_zero f n (λ k m. h k (omega arith) (omega arith)), e) (simp ints (omega arith))
    by (no d) below = rw (h n (omega arith) d, below d) (simp ints (omega arith))

pub sum_within_lem : (b n : ℕ) (f : ℕ → ℤ) → ((k : ℕ) → k < n → f k within b) → sum n f within (n * b)
unfolding sum
sum_within_lem b zero f h = simp ints (omega arith)
sum_within_lem b (suc n) f h = within-≤ (within-+ (sum_within_lem b n f (λ k l. h k (omega arith))) (h n (omega arith))) (omega arith)

-- |f 0| + .. + |f (n - 1)|
unfoldable pub weight : ℕ → (ℕ → ℤ) → ℕ
weight zero f = 0
weight (suc n) f = weight n f + nat_abs (f n)

-- a weighted sum of numbers within b
pub weighted : (t u : ℕ → ℤ) (b n : ℕ) → ((k : ℕ) → k < n → u k within b) → sum n (λ k. t k *ℤ u k) within (weight n t * b)
unfolding sum weight
weighted t u b zero h = simp ints (omega arith)
weighted t u b (suc n) h =
    within-≤ (within-+ (weighted t u b n (λ k l. h k (omega arith))) (within-* (within_self (t n)) (h n (omega arith)))) (omega arith)
