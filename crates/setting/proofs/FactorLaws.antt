-- The factors: each is at least 0, and the four factors pass the limits' tests as those of the ends in use do.
use mathlib.Core.Path.{◌≡◌, refl, sym}
use mathlib.Core.Bool.{Bool, true, false, cond, not, ◌&&◌}
use mathlib.Core.List.{List, [], ◌∷◌}
use Prim.Native.Nat.{ℕ, zero, suc, ◌+◌, ◌*◌, ◌≤◌, ◌<◌}
use native.Mathlib.Nat.{zero-add, add-zero}
use native.Mathlib.Omega.{arith}
use Rattle.std.specs.Prelude.{count_by}
use Rattle.std.proofs.lemmas.List.Sums.{sum_by-cons}
use lib.Dec.{ltb}
use lib.IntN.{ℤ, pos, negsuc}
use lib.Signed.{le_z, ◌≤ℤ◌}
use borrow.Author.Tests.{lt-ltb}
use Rattle.integer.specs.Nearest.{nearest}
use Rattle.lists.specs.Lists.{up_to}
use Rattle.lists.specs.Tests.{each}
use Rattle.integer.proofs.Reading.{ints, ◌⇒◌}
use Rattle.integer.proofs.Laws.{cancel-<}
use Rattle.integer.proofs.HalfUnit.{nearest_near}
use Rattle.setting.specs.declared.Setting.{Setting}
use Rattle.setting.specs.Values.{factor, factors, factor_high, factors_low}
use Rattle.setting.specs.Limits.{Limits, four_factors}

-- ---- how many factors are at least so large

above_not : (n : ℕ) (x : ℤ) → le_z x (pos n) ≡ not (le_z (pos (n + 1)) x)
above_not n x = by (le_z (pos (n + 1)) x) refl
  where
    by : (b : Bool) → le_z (pos (n + 1)) x ≡ b → le_z x (pos n) ≡ not b
    by true e = e ⇒ simp ints (omega arith)
    by false e = e ⇒ simp ints (omega arith)

-- some are above n where not each is at most n
count_above : (n : ℕ) (l : List ℤ) → ltb 0 (count_by (le_z (pos (n + 1))) l) ≡ not (each (λ x. le_z x (pos n)) l)
count_above n [] = refl
count_above n (x ∷ l) =
    rw (above_not n x, sum_by-cons (λ y. cond (le_z (pos (n + 1)) y) 1 0) x l)
    (by (le_z (pos (n + 1)) x) (count_by (le_z (pos (n + 1))) l) (each (λ y. le_z y (pos n)) l) (count_above n l))
  where
    by : (b : Bool) (m : ℕ) (r : Bool) → ltb 0 m ≡ not r → ltb 0 (cond b 1 0 + m) ≡ not (not b && r)
    by true m r e = lt-ltb 0 (1 + m) (omega arith)
    by false m r e = rw (zero-add m) e

-- ---- a quotient of two numbers, to the nearest, is at least 0

nearest_nonneg : (a b : ℕ) → 0 < b → pos 0 ≤ℤ nearest (pos a) b
nearest_nonneg a b h =
    let x = nearest (pos a) b in
    cancel-< (pos (2 * b)) (negsuc 0) x (simp ints (omega arith)) (nearest_near (pos a) b h ⇒ simp ints (omega arith)) ⇒ simp ints (omega arith)

pub factor_nonneg : (v : Setting) (z : ℕ) → 1 ≤ v.power → pos 0 ≤ℤ factor v z
unfolding factor
factor_nonneg v z h = nearest_nonneg _ _ (omega arith)

-- ---- the four factors, of which those past the ends in use are 0, against the factors of the ends in use

-- by a test that 0 does not pass
module _ (t : ℤ → Bool) (o : t (pos 0) ≡ false) (f : ℕ → ℤ) where
  four_count : (n : ℕ) → n ≤ 4 → count_by t (up_to 4 (λ z. cond (ltb z n) (f z) (pos 0))) ≡ count_by t (up_to n f)
  unfolding up_to
  four_count zero l = simp (o, add-zero)
  four_count (suc zero) l = simp (o, add-zero)
  four_count (suc (suc zero)) l = simp (o, add-zero)
  four_count (suc (suc (suc zero))) l = simp (o, add-zero)
  four_count (suc (suc (suc (suc zero)))) l = refl
  four_count (suc (suc (suc (suc (suc n))))) l = absurd (omega arith)

module _ {v : Setting} {ks : List ℤ} (h : Limits v) (e : ks ≡ four_factors v) where
  pub high_is : {n : ℕ} → n ≡ count_by (le_z (pos 1048577)) ks → factor_high v ≡ ltb 0 n
  unfolding factor_high four_factors
  high_is c = rw (c, e, four_count (le_z (pos 1048577)) refl (factor v) v.ends h.four) (sym (count_above 1048576 (factors v)))

  pub low_is : {n : ℕ} → n ≡ count_by (le_z (pos 32768)) ks → factors_low v ≡ ltb n 2
  unfolding factors_low four_factors
  low_is c = rw (c, e, four_count (le_z (pos 32768)) refl (factor v) v.ends h.four)
