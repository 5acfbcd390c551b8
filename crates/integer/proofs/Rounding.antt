-- `nearest` by its bounds: the law of division rounded down, and that only one number has those bounds; and `nearest_away` by the machine's
-- division, which is toward zero. What other crates may use of either stands in HalfUnit.antt.
use mathlib.Core.Path.{◌≡◌, refl}
use Prim.Native.Nat.{ℕ, suc, ◌+◌, ◌*◌, ◌<◌}
use native.Mathlib.Nat.{div-add-mod, mod-lt}
use native.Mathlib.Omega.{arith}
use lib.IntN.{ℤ, pos, negsuc, ◌+ℤ◌, ◌*ℤ◌, ◌-ℤ◌}
use lib.Signed.{◌≤ℤ◌, ◌<ℤ◌, quot_z}
use Rattle.integer.specs.Within.{◌within◌}
use Rattle.integer.specs.Nearest.{floor, nearest, nearest_away}
use Rattle.integer.proofs.Reading.{ints, ◌⇒◌}
use Rattle.integer.proofs.Laws.{cancel-<}

-- 5/2, −5/2, −7/4, −6/4 and −5/4; 0/3; 1/2 and −1/2: a half up
rounded :
    (nearest (pos 5) 2 ≡ pos 3) × (nearest (negsuc 4) 2 ≡ negsuc 1) × (nearest (negsuc 6) 4 ≡ negsuc 1) × (nearest (negsuc 5) 4 ≡ negsuc 0)
    × (nearest (negsuc 4) 4 ≡ negsuc 0) × (nearest (pos 0) 3 ≡ pos 0) × (nearest (pos 1) 2 ≡ pos 1) × (nearest (negsuc 0) 2 ≡ pos 0)
unfolding nearest floor
rounded = (refl, refl, refl, refl, refl, refl, refl, refl)

-- the same, a half away from zero
rounded_away :
    (nearest_away (pos 5) 2 ≡ pos 3) × (nearest_away (negsuc 4) 2 ≡ negsuc 2) × (nearest_away (negsuc 6) 4 ≡ negsuc 1) × (nearest_away (negsuc 5) 4 ≡ negsuc 1)
    × (nearest_away (negsuc 4) 4 ≡ negsuc 0) × (nearest_away (pos 0) 3 ≡ pos 0) × (nearest_away (pos 1) 2 ≡ pos 1) × (nearest_away (negsuc 0) 2 ≡ negsuc 0)
unfolding nearest_away nearest floor
rounded_away = (refl, refl, refl, refl, refl, refl, refl, refl)

-- ---- rounded down

-- q is z / m, rounded down
abbrev pub Floor : ℤ → ℕ → ℤ → Type 0
Floor z m q = ((pos m *ℤ q) ≤ℤ z) × (z <ℤ (pos m *ℤ (q +ℤ pos 1)))

pub floor_is : (z : ℤ) (m : ℕ) → 0 < m → Floor z m (floor z m)
unfolding floor
floor_is (pos a) m h = simp ints (omega (arith, div-add-mod a m, mod-lt a h))
floor_is (negsuc a) m h = simp ints (omega (arith, div-add-mod a m, mod-lt a h))

pub floor_only : (z q r : ℤ) (m : ℕ) → Floor z m q → Floor z m r → q ≡ r
floor_only z q r m h k =
    cancel-< (pos m) q (r +ℤ pos 1) (simp ints (omega arith)) (h ⇒ k ⇒ simp ints (omega arith)) ⇒
    cancel-< (pos m) r (q +ℤ pos 1) (simp ints (omega arith)) (h ⇒ k ⇒ simp ints (omega arith)) ⇒
    simp ints (omega arith)

-- ---- to the nearest

-- q is a / b to the nearest, a half up: b·(2q − 1) ≤ 2a < b·(2q + 1)
abbrev pub Nearest : ℤ → ℕ → ℤ → Type 0
Nearest a b q = ((pos 2 *ℤ pos b *ℤ q) ≤ℤ (pos 2 *ℤ a +ℤ pos b)) × ((pos 2 *ℤ a +ℤ pos b) <ℤ (pos 2 *ℤ pos b *ℤ (q +ℤ pos 1)))

pub nearest_is : (a : ℤ) (b : ℕ) → 0 < b → Nearest a b (nearest a b)
unfolding nearest
nearest_is a b h = floor_is (pos 2 *ℤ a +ℤ pos b) (2 * b) (omega arith)

pub nearest_only : (a : ℤ) (b : ℕ) (q : ℤ) → 0 < b → Nearest a b q → q ≡ nearest a b
nearest_only a b q h k = floor_only (pos 2 *ℤ a +ℤ pos b) q (nearest a b) (2 * b) k (nearest_is a b h)

-- ---- a half away from zero: the machine's division, with half a divisor more on the side of a

-- b with the sign of a
pub data Beside (a : ℤ) (b : ℕ) : ℤ → Type 0 where
  below : a <ℤ pos 0 → Beside a b (pos 0 -ℤ pos b)
  above : pos 0 ≤ℤ a → Beside a b (pos b)

pub beside_within : {a h : ℤ} {b : ℕ} → Beside a b h → h within b
beside_within (below k) = simp ints (omega arith)
beside_within (above k) = simp ints (omega arith)

pub away_is : {a h : ℤ} {b : ℕ} → Beside a b h → quot_z (pos 2 *ℤ a +ℤ h) (pos (2 * b)) ≡ nearest_away a b
unfolding nearest_away nearest floor
away_is {a = pos a} (above k) = refl
away_is {a = negsuc a} (above k) = k ⇒ simp ints (omega arith)
away_is {a = pos a} (below k) = k ⇒ simp ints (omega arith)
away_is {a = negsuc a} {b = b} (below k) =
    let top : pos 2 *ℤ negsuc a +ℤ (pos 0 -ℤ pos b) ≡ negsuc (2 * a + 1 + b) = simp ints (omega arith) in
    let size : suc (2 * a + 1 + b) ≡ 2 * suc a + b = omega arith in
    rw (top, size)
