-- Of integers: a negative one by its size, a bound on the size, and the test of two for equality.
use Rattle.std.specs.Prelude.{Bool, ◌&&◌, ℕ, ◌≤◌, ℤ, pos, neg_ℤ, nat_abs}
use Rattle.std.specs.Int.Signed.{le_z}

-- −n
abbrev pub neg : ℕ → ℤ
neg n = neg_ℤ (pos n)

-- |x| ≤ n. A record, so that x and n are inferred from a proof of it.
infix 50 ◌within◌
pub record ◌within◌ (x : ℤ) (n : ℕ) : Type 0 where
  pub size : nat_abs x ≤ n

-- x and y are equal
unfoldable pub eq_z : ℤ → ℤ → Bool
eq_z x y = le_z x y && le_z y x
