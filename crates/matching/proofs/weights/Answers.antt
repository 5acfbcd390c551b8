-- `matching::weights` meets its contract. The loop's invariant: the places of the ends before z hold their weights.
use mathlib.Core.Path.{◌≡◌, refl}
use native.Mathlib.Omega.{arith}
use borrow.Author.Rules.{rules}
use lib.IntN.{ℤ}
use mir.Syntax.{w64}
use mir.Val.{to_z, of_z}
use Prim.Native.Nat.{ℕ}
use Rattle.lists.proofs.Fill.{filled_none, filled_all}
use Rattle.matching.specs.Weights.{single, weight_of, weights_at, weights_of}
use Rattle.matching.proofs.Threes.{three_more, end_place}
use Rattle.matching.proofs.weights.Goals as goal

pub loop-z-init : goal.loop-z-init
loop-z-init c = filled_none refl

pub loop-z-preserved : goal.loop-z-preserved
unfolding weights_at
loop-z-preserved c =
    let z = c.loop-z.z in
    let w = c.weights_at-w in
    let p : to_z w64 (of_z w64 w.result.p) ≡ w.result.p = search rules in
    let n : to_z w64 (of_z w64 w.result.n) ≡ w.result.n = search rules in
    let q : to_z w64 (of_z w64 w.result.q) ≡ w.result.q = search rules in
    let weight : ℕ → ℕ → ℤ = λ z y. weight_of c.args.v z (single y) in
    rw (p, n, q, w.ensures)
    (three_more z c.loop-z.invariant (omega arith) (end_place weight z 0 _ (omega arith) (omega arith)) (end_place weight z 1 _ refl (omega arith))
    (end_place weight z 2 _ refl (omega arith)))

pub returns : goal.returns
unfolding weights_of
returns c = filled_all c.loop-z.invariant (omega arith)
