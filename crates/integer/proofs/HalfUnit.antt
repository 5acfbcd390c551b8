-- The laws of `nearest` and `nearest_away` that other crates use. `nearest_away_neg` is the one for which a half goes away from zero; the others do not
-- depend on the side to which it goes.
use mathlib.Core.Path.{◌≡◌, refl, sym, ap, ◌∙◌}
use Prim.Native.Nat.{ℕ, zero, suc, ◌*◌, ◌<◌}
use native.Mathlib.Nat.{mul-le-mul_left, mul-pos, mul-lt-mul_of_pos_left}
use native.Mathlib.Omega.{arith}
use lib.IntN.{ℤ, pos, negsuc, neg_ℤ, ◌*ℤ◌}
use Rattle.integer.specs.Nearest.{nearest, nearest_away, Near}
use Rattle.integer.proofs.Reading.{ints, ◌⇒◌}
use Rattle.integer.proofs.Rounding.{nearest_is, nearest_only}

-- the half-unit law: |2·(b·nearest(a/b) − a)| ≤ b
pub nearest_near : (a : ℤ) (b : ℕ) → 0 < b → Near (nearest a b) a b
nearest_near a b h = nearest_is a b h ⇒ simp ints (omega arith)

-- top and under times the same number
pub nearest_times : (m : ℕ) (a : ℤ) (b : ℕ) → 0 < m → 0 < b → nearest (pos m *ℤ a) (m * b) ≡ nearest a b
nearest_times m a b hm hb =
    sym
    (nearest_only (pos m *ℤ a) (m * b) (nearest a b) (mul-pos hm hb)
    (nearest_is a b hb ⇒ simp ints (λ h. (omega (arith, mul-le-mul_left m h.0), omega (arith, mul-lt-mul_of_pos_left h.1 hm)))))

-- ---- a half away from zero

nearest_zero : (b : ℕ) → 0 < b → nearest (pos 0) b ≡ pos 0
nearest_zero b h = sym (nearest_only (pos 0) b (pos 0) h (simp ints (omega arith, omega arith)))

-- the half-unit law
pub nearest_away_near : (a : ℤ) (b : ℕ) → 0 < b → Near (nearest_away a b) a b
unfolding nearest_away
nearest_away_near (pos a) b h = nearest_near (pos a) b h
nearest_away_near (negsuc a) b h = nearest_near (pos (suc a)) b h ⇒ simp ints (omega arith)

-- a negated number is rounded to the negated quotient
pub nearest_away_neg : (a : ℤ) (b : ℕ) → 0 < b → nearest_away (neg_ℤ a) b ≡ neg_ℤ (nearest_away a b)
unfolding nearest_away
nearest_away_neg (pos zero) b h = nearest_zero b h ⇒ simp ints (omega arith)
nearest_away_neg (pos (suc a)) b h = refl
nearest_away_neg (negsuc a) b h = simp ints (omega arith)

-- top and under times the same number
pub nearest_away_times : (m : ℕ) (a : ℤ) (b : ℕ) → 0 < m → 0 < b → nearest_away (pos m *ℤ a) (m * b) ≡ nearest_away a b
unfolding nearest_away
nearest_away_times m (pos a) b hm hb = nearest_times m (pos a) b hm hb
nearest_away_times m (negsuc a) b hm hb =
    nearest_away_neg (pos (m * suc a)) (m * b) (mul-pos hm hb) ∙ ap neg_ℤ (nearest_times m (pos (suc a)) b hm hb)
