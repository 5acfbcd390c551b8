-- One turn of a loop that tests each of a list of signed numbers against two ends, at any width: samples and matched numbers.
use mathlib.Core.Path.{◌≡◌, sym, ap, ◌∙◌}
use mathlib.Core.Bool.{Bool, true, false}
use mathlib.Core.List.{List}
use Prim.Native.Nat.{ℕ, suc, ◌+◌, ◌<◌, ◌^◌}
use native.Mathlib.Omega.{arith}
use borrow.Author.Tests.{le-leb, lt-leb}
use lib.Dec.{leb}
use lib.IntN.{ℤ, pos, negsuc, nat_abs}
use lib.Signed.{lt_z, mag}
use lib.ListN.{length, get_or, drop}
use mir.Syntax.{Width, w16}
use mir.Val.{to_z, of_z, hbits}
use Rattle.lists.specs.Tests.{each}
use Rattle.integer.specs.Within.{eq_z}
use Rattle.integer.proofs.Reading.{ints, abs_is, ◌⇒◌}
use Rattle.integer.proofs.Machine.{back_ok}
use Rattle.lists.proofs.TestLaws.{is_false}
use Rattle.integer.proofs.Laws.{eq_z→≡}
use Rattle.lists.proofs.Loops.{each_stop, each_more}

-- |x| ≤ m + 1
abbrev sized : ℕ → ℤ → Bool
sized m x = leb (nat_abs x) (suc m)

module _ (b : Width) (m : ℕ) (s : List ℤ) (i : ℕ) (inv : each (sized m) (drop i s) ≡ each (sized m) s) (h : i < length s)
    (fits : mag (get_or s i (pos 0)) < 2 ^ hbits b) where
  read : to_z b (of_z b (get_or s i (pos 0))) ≡ get_or s i (pos 0)
  read = back_ok b (get_or s i (pos 0)) fits

  pub below : lt_z (to_z b (of_z b (get_or s i (pos 0)))) (negsuc m) ≡ true → false ≡ each (sized m) s
  below t =
      each_stop (sized m) s i inv h (pos 0)
      (lt-leb (nat_abs (get_or s i (pos 0))) (suc m) (rw read at t ⇒ simp ints (omega (arith, abs_is (get_or s i (pos 0))))))

  pub above : lt_z (pos (suc m)) (to_z b (of_z b (get_or s i (pos 0)))) ≡ true → false ≡ each (sized m) s
  above t =
      each_stop (sized m) s i inv h (pos 0)
      (lt-leb (nat_abs (get_or s i (pos 0))) (suc m) (rw read at t ⇒ simp ints (omega (arith, abs_is (get_or s i (pos 0))))))

  pub neither : lt_z (to_z b (of_z b (get_or s i (pos 0)))) (negsuc m) ≡ false → lt_z (pos (suc m)) (to_z b (of_z b (get_or s i (pos 0)))) ≡ false →
      each (sized m) (drop (i + 1) s) ≡ each (sized m) s
  neither t u =
      each_more (sized m) s i inv h (pos 0)
      (le-leb (nat_abs (get_or s i (pos 0))) (suc m) (rw read at t ⇒ rw read at u ⇒ simp ints (omega (arith, abs_is (get_or s i (pos 0))))))

-- a number whose bits are not zero, and one whose bits are
pub not_zero : (x : ℤ) → (of_z w16 x ≡ 0 → ⊥) → eq_z x (pos 0) ≡ false
not_zero x h = is_false (λ t. h (ap (of_z w16) (eq_z→≡ x (pos 0) t)))

pub is_zero : (x : ℤ) → mag x < 2 ^ hbits w16 → of_z w16 x ≡ 0 → eq_z x (pos 0) ≡ true
unfolding eq_z
is_zero x fits e = let z : x ≡ pos 0 = sym (back_ok w16 x fits) ∙ ap (to_z w16) e in rw z
