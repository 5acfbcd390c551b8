-- `matching::numbers` meets its contract. The loop's invariant: the places of the ends before z hold their numbers, which are those of the definition.
use mathlib.Core.Path.{◌≡◌, refl}
use native.Mathlib.Omega.{arith}
use borrow.Author.Rules.{rules}
use lib.IntN.{ℤ}
use mir.Syntax.{w32}
use mir.Val.{to_z, of_z}
use Prim.Native.Nat.{ℕ}
use Rattle.lists.proofs.Fill.{filled_none, filled_all}
use Rattle.matching.specs.Sets.{system, place_of, trio_at, numbers}
use Rattle.matching.proofs.Threes.{three_more, end_place}
use Rattle.matching.proofs.Weighing.{end_ready, weighed_trio_lem}
use Rattle.matching.proofs.numbers.Goals as goal

pub matched_at-t-requires : goal.matched_at-t-requires
matched_at-t-requires c = end_ready c.requires _ (omega arith)

pub loop-z-init : goal.loop-z-init
loop-z-init c = filled_none refl

pub loop-z-preserved : goal.loop-z-preserved
unfolding trio_at
loop-z-preserved c =
    let z = c.loop-z.z in
    let t = c.matched_at-t in
    let a : to_z w32 (of_z w32 t.result.a) ≡ t.result.a = search rules in
    let b : to_z w32 (of_z w32 t.result.b) ≡ t.result.b = search rules in
    let d : to_z w32 (of_z w32 t.result.c) ≡ t.result.c = search rules in
    let number : ℕ → ℕ → ℤ = λ z y. place_of c.args.v c.args.set.now z (system y) in
    rw (a, b, d, weighed_trio_lem c.requires _ t.ensures (omega arith))
    (three_more z c.loop-z.invariant (omega arith) (end_place number z 0 _ (omega arith) (omega arith)) (end_place number z 1 _ refl (omega arith))
    (end_place number z 2 _ refl (omega arith)))

pub returns : goal.returns
unfolding numbers
returns c = filled_all c.loop-z.invariant (omega arith)
