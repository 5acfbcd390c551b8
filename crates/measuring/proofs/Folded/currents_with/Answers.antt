-- `measuring::Folded::currents_with` meets its contract: the parts of the sum over the ends, and the fifth harmonic's, are of a size that the amplitude
-- takes.
use mathlib.Core.Path.{◌≡◌, refl}
use mathlib.Core.List.{List}
use Prim.Native.Nat.{ℕ}
use native.Mathlib.Omega.{arith}
use lib.IntN.{ℤ, pos, neg_ℤ, ◌-ℤ◌}
use mir.Syntax.{w32}
use mir.Val.{SFits, to_z, of_z}
use Rattle.integer.specs.Within.{◌within◌}
use Rattle.integer.proofs.Machine.{fits, back_within}
use Rattle.measuring.specs.WindowInput.{Ends}
use Rattle.measuring.specs.Folded.{PartsLike, over_ends, currents_with}
use Rattle.measuring.proofs.PartLaws.{ends_within, ends_read, minus_within, minus_is, handed, handed_is}
use Rattle.measuring.proofs.Folded.currents_with.Goals as goal

-- the parts of the sum over the ends, as read
module _ {f : List ℤ} {E : ℕ} (like : PartsLike f) (used : Ends E) (y : ℕ) where
  abbrev of : ℕ → ℤ
  of p = over_ends E f p y

  small : (p : ℕ) → of p within 51200000
  small p = ends_within like p y E used.four

  module _ (p : ℕ) {x : ℤ} (e : x ≡ of p) where
    read : to_z w32 (of_z w32 x) ≡ of p
    read = ends_read like p y E used.four e

    -- with the other sign
    minus_fits : SFits w32 (pos 0 -ℤ to_z w32 (of_z w32 x))
    minus_fits = rw (read, minus_is (of p)) (fits (minus_within (small p)) w32 refl)

    minus_read : to_z w32 (of_z w32 (pos 0 -ℤ to_z w32 (of_z w32 x))) ≡ neg_ℤ (of p)
    minus_read = rw (read, minus_is (of p)) (back_within (minus_within (small p)) w32 refl)

nought : pos 0 within 51200000
nought = record { size = omega arith }

pub amplitude-requires : goal.amplitude-requires
amplitude-requires c =
    let s = c.args.self.now in
    let y = c.args.y in
    handed (read s.like s.used y 0 c.over_ends-c.ensures) (read s.like s.used y 1 c.over_ends-c3.ensures)
    (read s.like s.used y 2 c.over_ends-s.ensures) (read s.like s.used y 3 c.over_ends-s3.ensures)
    (small s.like s.used y 0) (small s.like s.used y 1) (small s.like s.used y 2) (small s.like s.used y 3)

pub amplitude-requires-2 : goal.amplitude-requires-2
amplitude-requires-2 c =
    let s = c.args.self.now in
    let y = c.args.y in
    handed (read s.like s.used y 4 c.over_ends-c2.ensures) refl refl (read s.like s.used y 5 c.over_ends-s2.ensures)
    (small s.like s.used y 4) nought nought (small s.like s.used y 5)

pub overflow_sub-c3 : goal.overflow_sub-c3
overflow_sub-c3 c = minus_fits c.args.self.now.like c.args.self.now.used _ 1 c.over_ends-c3.ensures

pub overflow_sub-s3 : goal.overflow_sub-s3
overflow_sub-s3 c = minus_fits c.args.self.now.like c.args.self.now.used _ 3 c.over_ends-s3.ensures

pub amplitude-requires-3 : goal.amplitude-requires-3
amplitude-requires-3 c =
    let s = c.args.self.now in
    let y = c.args.y in
    handed (read s.like s.used y 0 c.over_ends-c.ensures) (minus_read s.like s.used y 1 c.over_ends-c3.ensures)
    (read s.like s.used y 2 c.over_ends-s.ensures) (minus_read s.like s.used y 3 c.over_ends-s3.ensures)
    (small s.like s.used y 0) (minus_within (small s.like s.used y 1)) (small s.like s.used y 2) (minus_within (small s.like s.used y 3))

pub returns : goal.returns
unfolding currents_with
returns c =
    let s = c.args.self.now in
    let y = c.args.y in
    let c0 = read s.like s.used y 0 c.over_ends-c.ensures in
    let s2 = read s.like s.used y 2 c.over_ends-s.ensures in
    rw (
      (handed_is c0 (read s.like s.used y 1 c.over_ends-c3.ensures) s2 (read s.like s.used y 3 c.over_ends-s3.ensures) c.amplitude.ensures).0,
      (handed_is (read s.like s.used y 4 c.over_ends-c2.ensures) refl refl (read s.like s.used y 5 c.over_ends-s2.ensures) c.amplitude-2.ensures).0,
      (handed_is c0 (minus_read s.like s.used y 1 c.over_ends-c3.ensures) s2 (minus_read s.like s.used y 3 c.over_ends-s3.ensures) c.amplitude-3.ensures).0,
    )
