-- Signed machine integers. A signed local holds bits: the machine reads x back from them as `to_z w (of_z w x)`, which is x where x fits.
use mathlib.Core.Path.{◌≡◌}
use mathlib.Core.Bool.{true}
use Prim.Native.Nat.{ℕ, suc, ◌^◌, ◌<◌}
use native.Mathlib.Nat.{le_trans, div-le_self}
use native.Mathlib.Omega.{arith}
use lib.Dec.{ltb}
use borrow.Author.Tests.{ltb-true}
use lib.IntN.{ℤ, pos, negsuc}
use lib.Signed.{mag, quot_z}
use mir.Syntax.{Width}
use mir.Val.{SFits, hbits, to_z, of_z}
use mir.ValLaws.{to_z-of_z}
use Rattle.integer.specs.Within.{◌within◌}
use Rattle.integer.proofs.Reading.{ints, ◌⇒◌}
use Rattle.integer.proofs.Laws.{nat_abs_neg}

module _ {x : ℤ} {n : ℕ} (h : x within n) (w : Width) (t : ltb n (2 ^ hbits w) ≡ true) where
  -- a number within a literal that the width holds fits: `fits h w64 refl`
  pub fits : SFits w x
  fits = h ⇒ ltb-true n (2 ^ hbits w) t ⇒ simp ints (omega arith)

  -- and is read back as it is: `back_within h w64 refl`, or `back_within h` in a list of `simp`
  pub back_within : to_z w (of_z w x) ≡ x
  back_within = to_z-of_z w x fits

pub back : {w : Width} {x : ℤ} → SFits w x → to_z w (of_z w x) ≡ x
back {w} {x} h = to_z-of_z w x h

-- a call's result: `back_ok w64 c.f.result c.f.ok`
pub back_ok : (w : Width) (x : ℤ) → mag x < 2 ^ hbits w → to_z w (of_z w x) ≡ x
back_ok w x h = to_z-of_z w x (record { sfits = h })

-- division toward zero
pub quot_within : {x : ℤ} {n : ℕ} → x within n → (m : ℕ) → quot_z x (pos m) within n
quot_within {x = pos a} h m = record { size = le_trans (div-le_self a m) h.size }
quot_within {x = negsuc a} h m = record { size = rw nat_abs_neg (le_trans (div-le_self (suc a) m) h.size) }
