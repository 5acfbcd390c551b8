-- The sums of a cycle from their parts. One law over harmonic, beginning and parts: where each constant is m times the number's share in part p and n
-- times that in part q, which a test of the twelve tells, the sum is m times part p and n times part q.
use mathlib.Core.Path.{◌≡◌, ◌∙◌}
use mathlib.Core.Bool.{Bool}
use Prim.Native.Nat.{ℕ, ◌+◌, ◌*◌, ◌%◌, ◌<◌}
use native.Mathlib.Omega.{arith}
use lib.Dec.{T}
use lib.IntN.{ℤ, pos, negsuc, neg_ℤ, ◌+ℤ◌, ◌*ℤ◌}
use Rattle.integer.specs.Within.{eq_z}
use Rattle.integer.proofs.Reading.{ints}
use Rattle.integer.proofs.Laws.{*ℤ-assoc, +ℤ-*ℤ, eq_z→≡}
use Rattle.integer.proofs.SumLaws.{sum_same, sum-+, sum_times}
use Rattle.lists.specs.Tests.{every}
use Rattle.lists.proofs.TestLaws.{every_at}
use Rattle.amplitude.specs.Amplitude.{t, weighted_sum, cycle, amplitude}
use Rattle.amplitude.specs.Parts.{share, part, joined, of_sums}

-- the test
abbrev in_parts : (h from : ℕ) (m n : ℤ) (p q : ℕ) → Bool
in_parts h from m n p q = every 12 (λ k. eq_z (t ((h * k + from) % 12)) (m *ℤ share p k +ℤ n *ℤ share q k))

by_parts : (h from : ℕ) (m n : ℤ) (p q : ℕ) → T (in_parts h from m n p q) → (u : ℕ → ℤ) → weighted_sum h from u ≡ m *ℤ part p u +ℤ n *ℤ part q u
unfolding weighted_sum part
by_parts h from m n p q test u =
    sum_same (λ k. t ((h * k + from) % 12) *ℤ u k) (λ k. m *ℤ (share p k *ℤ u k) +ℤ n *ℤ (share q k *ℤ u k)) 12 each
    ∙ sum-+ (λ k. m *ℤ (share p k *ℤ u k)) (λ k. n *ℤ (share q k *ℤ u k)) 12
    ∙ rw (sum_times m (λ k. share p k *ℤ u k) 12, sum_times n (λ k. share q k *ℤ u k) 12)
  where
    apart : (m n x y z : ℤ) → (m *ℤ x +ℤ n *ℤ y) *ℤ z ≡ m *ℤ (x *ℤ z) +ℤ n *ℤ (y *ℤ z)
    apart m n x y z = rw (+ℤ-*ℤ (m *ℤ x) (n *ℤ y) z, *ℤ-assoc m x z, *ℤ-assoc n y z)

    each : (k : ℕ) → k < 12 → t ((h * k + from) % 12) *ℤ u k ≡ m *ℤ (share p k *ℤ u k) +ℤ n *ℤ (share q k *ℤ u k)
    each k l =
        rw (eq_z→≡ _ _ (every_at 12 (λ k. eq_z (t ((h * k + from) % 12)) (m *ℤ share p k +ℤ n *ℤ share q k)) test k l)) (apart m n (share p k) (share q k) (u k))

-- the amplitudes of the three harmonics
module _ (u : ℕ → ℤ) where
  pub first_by_parts : amplitude 1 u ≡ of_sums (joined (part 0 u) (part 1 u)) (joined (part 2 u) (part 3 u))
  unfolding amplitude cycle of_sums t share eq_z
  first_by_parts = rw (by_parts 1 0 (pos 780) (pos 1351) 0 1 tt u, by_parts 1 9 (pos 780) (pos 1351) 2 3 tt u)

  pub fifth_by_parts : amplitude 5 u ≡ of_sums (joined (part 0 u) (neg_ℤ (part 1 u))) (joined (part 2 u) (neg_ℤ (part 3 u)))
  unfolding amplitude cycle of_sums t share eq_z
  fifth_by_parts =
      rw (by_parts 5 0 (pos 780) (negsuc 1350) 0 1 tt u, by_parts 5 9 (pos 780) (negsuc 1350) 2 3 tt u, taken (part 1 u), taken (part 3 u))
    where
      taken : (x : ℤ) → negsuc 1350 *ℤ x ≡ pos 1351 *ℤ neg_ℤ x
      taken x = simp ints (omega arith)

  pub second_by_parts : amplitude 2 u ≡ of_sums (joined (part 4 u) (pos 0)) (joined (pos 0) (part 5 u))
  unfolding amplitude cycle of_sums t share eq_z
  second_by_parts = rw (by_parts 2 0 (pos 780) (pos 0) 4 4 tt u, by_parts 2 9 (pos 0) (pos 1351) 5 5 tt u, left (part 4 u), right (part 5 u))
    where
      left : (x : ℤ) → pos 780 *ℤ x +ℤ pos 0 *ℤ x ≡ joined x (pos 0)
      left x = simp ints (omega arith)

      right : (x : ℤ) → pos 0 *ℤ x +ℤ pos 1351 *ℤ x ≡ joined (pos 0) x
      right x = simp ints (omega arith)
