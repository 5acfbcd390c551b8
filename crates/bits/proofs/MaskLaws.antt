-- Three bits and their number: at most 7, and each gives back the other.
use mathlib.Core.Path.{◌≡◌, refl}
use mathlib.Core.Bool.{Bool, true, false, cond}
use Prim.Native.Nat.{ℕ, ◌≤◌}
use native.Mathlib.Omega.{arith}
use lib.Dec.{eqb}
use borrow.Author.Tests.{eqb-true}
use Rattle.lists.proofs.TestLaws.{is_true, every_at}
use Rattle.bits.specs.declared.Bits.{Bits}
use Rattle.bits.specs.Bits.{bits_of, mask_of}

part : (b : Bool) (n : ℕ) → cond b n 0 ≤ n
part true n = omega arith
part false n = omega arith

pub mask-≤ : (b : Bits) → mask_of b ≤ 7
unfolding mask_of
mask-≤ b = omega (arith, part b.b0 1, part b.b1 2, part b.b2 4)

-- the bits of the number
pub bits_mask : (b : Bits) → bits_of (mask_of b) ≡ b
unfolding bits_of mask_of
bits_mask b = by b.b0 b.b1 b.b2
  where
    by : (x y z : Bool) → bits_of (mask_of (record { b0 = x; b1 = y; b2 = z })) ≡ record { b0 = x; b1 = y; b2 = z }
    by true true true = refl
    by true true false = refl
    by true false true = refl
    by true false false = refl
    by false true true = refl
    by false true false = refl
    by false false true = refl
    by false false false = refl

-- and the number of the bits
pub mask_bits : (n : ℕ) → n ≤ 7 → mask_of (bits_of n) ≡ n
unfolding bits_of mask_of
mask_bits n h = eqb-true _ _ (is_true (every_at 8 (λ n. eqb (mask_of (bits_of n)) n) tt n (omega arith)))
