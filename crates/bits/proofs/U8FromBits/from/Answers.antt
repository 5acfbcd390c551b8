-- The number of three bits: each bit, as a number, is 1 or 0 times its weight.
use mathlib.Core.Path.{◌≡◌, refl}
use mathlib.Core.Bool.{Bool, true, false, cond}
use Prim.Native.Nat.{◌+◌, ◌*◌}
use Rattle.std.specs.Int.{from_bool}
use Rattle.bits.specs.declared.Bits.{Bits}
use Rattle.bits.specs.Bits.{mask_of}
use Rattle.bits.proofs.U8FromBits.from.Goals as goal

weighed : (b : Bits) → from_bool b.b0 + 2 * from_bool b.b1 + 4 * from_bool b.b2 ≡ mask_of b
unfolding mask_of
weighed b = by b.b0 b.b1 b.b2
  where
    by : (x y z : Bool) → from_bool x + 2 * from_bool y + 4 * from_bool z ≡ cond x 1 0 + (cond y 2 0 + cond z 4 0)
    by true true true = refl
    by true true false = refl
    by true false true = refl
    by true false false = refl
    by false true true = refl
    by false true false = refl
    by false false true = refl
    by false false false = refl

pub returns : goal.returns
returns c = rw (c.from.ensures, c.from-2.ensures, c.from-3.ensures) (weighed c.args.b)
