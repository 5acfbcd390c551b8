-- Laws of integers: the ring's, the order's under products, and those of a bound on the size.
use mathlib.Core.Path.{◌≡◌, refl}
use lib.Dec.{T}
use Rattle.lists.proofs.TestLaws.{split}
use Prim.Native.Nat.{ℕ, zero, suc, ◌+◌, ◌*◌, ◌<◌, ◌≤◌}
use native.Mathlib.Nat.{le_refl, le_trans, mul-le-mul, le_of_mul-le-mul_left, lt_of_mul-lt-mul_right}
use native.Mathlib.Omega.{arith}
use lib.IntN.{ℤ, pos, negsuc, neg_ℤ, nat_abs, ◌+ℤ◌, ◌*ℤ◌, ◌-ℤ◌, *ℤ_comm}
use lib.Signed.{le_z, le_z_yes, ◌≤ℤ◌, ◌<ℤ◌}
use Rattle.integer.specs.Within.{◌within◌, eq_z}
use Rattle.integer.proofs.Reading.{ints, ◌⇒◌}

-- ---- the ring

pub *ℤ-assoc : (a b c : ℤ) → (a *ℤ b) *ℤ c ≡ a *ℤ (b *ℤ c)
*ℤ-assoc a b c = simp ints (omega arith)

pub *ℤ-+ℤ : (a b c : ℤ) → a *ℤ (b +ℤ c) ≡ a *ℤ b +ℤ a *ℤ c
*ℤ-+ℤ a b c = simp ints (omega arith)

pub +ℤ-*ℤ : (a b c : ℤ) → (a +ℤ b) *ℤ c ≡ a *ℤ c +ℤ b *ℤ c
+ℤ-*ℤ a b c = simp ints (omega arith)

pub *ℤ-left-comm : (a b c : ℤ) → a *ℤ (b *ℤ c) ≡ b *ℤ (a *ℤ c)
*ℤ-left-comm a b c = simp ints (omega arith)

pub negℤ-*ℤ : (a b : ℤ) → neg_ℤ a *ℤ b ≡ neg_ℤ (a *ℤ b)
negℤ-*ℤ a b = simp ints (omega arith)

pub *ℤ-negℤ : (a b : ℤ) → a *ℤ neg_ℤ b ≡ neg_ℤ (a *ℤ b)
*ℤ-negℤ a b = simp ints (omega arith)

-- `omega` takes at most 64 monomials, and `ints` makes four of x y and eight of x y z. Past that,
--     simp ring (simp literals (simp linear (omega arith)))
-- first sorts each product, and takes each for one unknown, times a literal.
pub ruleset ring = (*ℤ-+ℤ, +ℤ-*ℤ, negℤ-*ℤ, *ℤ-negℤ, *ℤ-assoc, *ℤ-left-comm, *ℤ_comm)

pub literal_literal : (m n : ℕ) (x : ℤ) → pos m *ℤ (pos n *ℤ x) ≡ pos (m * n) *ℤ x
literal_literal m n x = simp ints (omega arith)

pub literal_left : (n : ℕ) (x y : ℤ) → x *ℤ (pos n *ℤ y) ≡ pos n *ℤ (x *ℤ y)
literal_left n x y = simp ints (omega arith)

pub literal_front : (n : ℕ) (x : ℤ) → x *ℤ pos n ≡ pos n *ℤ x
literal_front n x = *ℤ_comm x (pos n)

pub ruleset literals = (literal_literal, literal_left, literal_front)

-- ---- the order under products

pub cancel-< : (d x y : ℤ) → pos 0 ≤ℤ d → (x *ℤ d) <ℤ (y *ℤ d) → x <ℤ y
cancel-< (pos d) x y = simp ints (λ p h. lt_of_mul-lt-mul_right d (omega arith))
cancel-< (negsuc d) x y = simp ints (omega arith)

-- ---- absolute values

pub nat_abs_neg : (x : ℤ) → nat_abs (neg_ℤ x) ≡ nat_abs x
nat_abs_neg (pos zero) = refl
nat_abs_neg (pos (suc n)) = refl
nat_abs_neg (negsuc n) = refl

pub nat_abs-* : (x y : ℤ) → nat_abs (x *ℤ y) ≡ nat_abs x * nat_abs y
nat_abs-* (pos a) (pos b) = refl
nat_abs-* (pos a) (negsuc b) = nat_abs_neg (pos (a * suc b))
nat_abs-* (negsuc a) (pos b) = nat_abs_neg (pos (suc a * b))
nat_abs-* (negsuc a) (negsuc b) = refl

pub within_self : (x : ℤ) → x within nat_abs x
within_self x = record { size = le_refl (nat_abs x) }

module _ {x : ℤ} {m : ℕ} (h : x within m) where
  pub within-≤ : {n : ℕ} → m ≤ n → x within n
  within-≤ k = record { size = le_trans h.size k }

  module _ {y : ℤ} {n : ℕ} (k : y within n) where
    pub within-+ : (x +ℤ y) within (m + n)
    within-+ = h ⇒ k ⇒ simp ints (omega arith)

    pub within-- : (x -ℤ y) within (m + n)
    within-- = h ⇒ k ⇒ simp ints (omega arith)

    pub within-* : (x *ℤ y) within (m * n)
    within-* = record { size = rw nat_abs-* (mul-le-mul h.size k.size) }

-- x, which is y, is within a
pub within_is : {x y : ℤ} {a : ℕ} → x ≡ y → y within a → x within a
within_is e h = rw e h

-- a whole factor put in, and cancelled
pub times_within : (k : ℕ) {x : ℤ} {a : ℕ} → x within a → (pos k *ℤ x) within (k * a)
times_within k h = within-* (within_self (pos k)) h

pub cancel_times : {k a : ℕ} {x : ℤ} → 0 < k → (pos k *ℤ x) within (k * a) → x within a
cancel_times {k} {a} {x} p h = record { size = le_of_mul-le-mul_left {k = k} (rw nat_abs-* at h.size) p }

-- ---- the test for equality

pub eq_z→≡ : (x y : ℤ) → T (eq_z x y) → x ≡ y
unfolding eq_z
eq_z→≡ x y h =
    let k = split (le_z x y) (le_z y x) h in
    le_z_yes {a = x} {b = y} k.0 ⇒ le_z_yes {a = y} {b = x} k.1 ⇒ simp ints (omega arith)
