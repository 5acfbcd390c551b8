-- The root: `root n` is the largest number whose square is at most n, and the only one with the two bounds of `Root`.
use mathlib.Core.Path.{◌≡◌, refl}
use mathlib.Core.Bool.{Bool, true, false, not, cond}
use Prim.Native.Nat.{ℕ, zero, suc, ◌+◌, ◌*◌, ◌/◌, ◌≤◌, ◌<◌}
use native.Mathlib.Nat.{mul-le-mul}
use native.Mathlib.Omega.{arith}
use lib.Dec.{T, leb, ltb, leb→le, nleb→lt, ltb→lt, nltb→le}
use Rattle.integer.specs.Root.{Root, raised, root_by, root}

-- 0, 1, 3, 4, 99 and 100, and a number of twelve digits
roots : (root 0 ≡ 0) × (root 1 ≡ 1) × (root 3 ≡ 1) × (root 4 ≡ 2) × (root 99 ≡ 9) × (root 100 ≡ 10) × (root 999999999999 ≡ 999999)
unfolding root_by
roots = (refl, refl, refl, refl, refl, refl, refl)

-- the root of n from that of n / 4
raised_is : (n r : ℕ) → Root (n / 4) r → Root n (raised n (2 * r))
raised_is n r h = by (leb ((2 * r + 1) * (2 * r + 1)) n) (leb→le _ _) (nleb→lt _ _)
  where
    by : (b : Bool) → (T b → (2 * r + 1) * (2 * r + 1) ≤ n) → (T (not b) → n < (2 * r + 1) * (2 * r + 1)) → Root n (cond b (2 * r + 1) (2 * r))
    by true y f = record { low = y tt; high = omega (arith, h.high) }
    by false y f = record { low = omega (arith, h.low); high = f tt }

root_by_lem : (most n : ℕ) → n ≤ most → Root n (root_by most n)
unfolding root_by
root_by_lem zero n l = record { low = omega arith; high = omega arith }
root_by_lem (suc most) zero l = record { low = omega arith; high = omega arith }
root_by_lem (suc most) (suc n) l = raised_is (suc n) (root_by most (suc n / 4)) (root_by_lem most (suc n / 4) (omega arith))

pub root_is : (n : ℕ) → Root n (root n)
root_is n = root_by_lem n n (omega arith)

-- a root is at most what has a larger square next to it
pub root-≤ : {n m : ℕ} (r : ℕ) → Root n m → n < (r + 1) * (r + 1) → m ≤ r
root-≤ {n} {m} r h k = by (ltb r m) (ltb→lt r m) (nltb→le r m)
  where
    by : (b : Bool) → (T b → r < m) → (T (not b) → m ≤ r) → m ≤ r
    by true y f = absurd (omega (arith, mul-le-mul (y tt) (y tt), h.low))
    by false y f = f tt

-- what the code's result is shown by
pub root_only : {n r : ℕ} → Root n r → r ≡ root n
root_only {n} {r} h = omega (arith, root-≤ (root n) h (root_is n).high, root-≤ r (root_is n) h.high)
