-- `integer::nearest` meets its contract: each number on the way fits, by the bounds on a and b, and is read back from its bits as it is.
use mathlib.Core.Path.{◌≡◌, refl, ◌∙◌}
use Prim.Native.Nat.{ℕ}
use lib.IntN.{ℤ, pos, negsuc, ◌+ℤ◌, ◌*ℤ◌}
use mir.Syntax.{w64}
use mir.Val.{SFits}
use Rattle.std.specs.Int.{int_div_euclid}
use Rattle.integer.proofs.Reading.{ints, arithℤ}
use Rattle.integer.proofs.Machine.{back, back_ok}
use Rattle.integer.specs.Nearest.{floor, nearest, Divides}
use Rattle.integer.proofs.nearest.Goals as goal

rounded_down : (a : ℤ) (b : ℕ) → int_div_euclid a (pos b) ≡ floor a b
unfolding floor
rounded_down (pos a) b = refl
rounded_down (negsuc a) b = refl

module _ (a : ℤ) (b : ℕ) (h : Divides a b) where
  twice : SFits w64 (pos 2 *ℤ a)
  twice = simp ints (omega arithℤ)

  divisor : SFits w64 (pos b)
  divisor = simp ints (omega arithℤ)

  top : SFits w64 (pos 2 *ℤ a +ℤ pos b)
  top = simp ints (omega arithℤ)

  under : SFits w64 (pos 2 *ℤ pos b)
  under = simp ints (omega arithℤ)

pub returns : goal.returns
unfolding nearest
returns c =
    let a = c.args.a in
    let b = c.args.b in
    let h = c.requires in
    back_ok w64 _ c.div_euclid.type_inv
    ∙ c.div_euclid.ensures
    ∙ simp (back c.ranges.a, back (twice a b h), back (divisor a b h), back (top a b h), back (under a b h)) (rounded_down _ _)
