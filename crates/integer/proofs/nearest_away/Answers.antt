-- `integer::nearest_away` meets its contract: each number on the way fits, by the bounds on a and b, and is read back from its bits as it is.
use native.Mathlib.Omega.{arith}
use Prim.Native.Nat.{ℕ, ◌*◌, ◌^◌}
use lib.IntN.{ℤ, pos, ◌+ℤ◌, ◌-ℤ◌, ◌*ℤ◌}
use lib.Signed.{quot_z}
use mir.Syntax.{w64}
use mir.Val.{SFits, to_z}
use Rattle.integer.proofs.Reading.{ints, arithℤ, ◌⇒◌}
use Rattle.integer.proofs.Machine.{back, quot_within}
use Rattle.integer.specs.Nearest.{Divides}
use Rattle.integer.specs.Within.{◌within◌}
use Rattle.integer.proofs.Rounding.{Beside, below, above, beside_within, away_is}
use Rattle.integer.proofs.nearest_away.Goals as goal
use Rattle.integer.proofs.nearest_away.Goals.{Joined-a-lt0, then-a-lt0, else-a-lt0}

divisor_fits : {a : ℤ} {b : ℕ} → Divides a b → SFits w64 (pos b)
divisor_fits r = let few = r.few in simp ints (omega arithℤ)

pub overflow_sub-half : goal.overflow_sub-half
overflow_sub-half c = rw (back (divisor_fits c.requires)) (simp ints (omega arithℤ))

beside : (c : Joined-a-lt0) → Beside c.args.a c.args.b (to_z w64 c.if-a-lt0.half-bits)
beside c =
    elim c.if-a-lt0.branch [
      | then-a-lt0 w ↦
          let test = rw (back c.ranges.a) at w.if-a-lt0.true in
          let opposite : SFits w64 (pos 0 -ℤ pos c.args.b) = simp ints (omega arithℤ) in
          rw (w.half-is, back (divisor_fits c.requires), back opposite) (below (test ⇒ simp ints (omega arith)))
      | else-a-lt0 w ↦
          let test = rw (back c.ranges.a) at w.if-a-lt0.false in
          rw (w.half-is, back (divisor_fits c.requires)) (above (test ⇒ simp ints (omega arith)))
    ]

pub overflow_mul-result : goal.overflow_mul-result
overflow_mul-result c = rw (back c.ranges.a) (simp ints (omega arithℤ))

module _ (c : Joined-a-lt0) where
  abbrev t : ℤ
  t = pos 2 *ℤ c.args.a +ℤ to_z w64 c.if-a-lt0.half-bits

  t_small : t within 2 ^ 62
  t_small = beside_within (beside c) ⇒ simp ints (omega arithℤ)

  q_fits : SFits w64 (quot_z t (pos (2 * c.args.b)))
  q_fits = quot_within t_small (2 * c.args.b) ⇒ simp ints (omega arith)

pub overflow_add-result : goal.overflow_add-result
overflow_add-result c = rw (back (overflow_mul-result c), back c.ranges.a) (t_small c ⇒ simp ints (omega arith))

pub overflow_mul-result-2 : goal.overflow_mul-result-2
overflow_mul-result-2 c = rw (back (divisor_fits c.requires)) (simp ints (omega arithℤ))

pub nonzero_div-result : goal.nonzero_div-result
nonzero_div-result c =
    rw (back (overflow_add-result c), back (overflow_mul-result c), back (overflow_mul-result-2 c), back c.ranges.a, back (divisor_fits c.requires))
    (omega arith, q_fits c)

pub returns : goal.returns
returns c =
    rw (
      back (overflow_add-result c),
      back (overflow_mul-result c),
      back (overflow_mul-result-2 c),
      back c.ranges.a,
      back (divisor_fits c.requires),
      back (q_fits c),
    )
    (away_is (beside c))
