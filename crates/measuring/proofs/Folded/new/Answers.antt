-- `measuring::Folded::new` meets its contract. The loop's invariant: after i turns the first 6·i stores are done, those of part p and number j for j < i.
use mathlib.Core.Path.{◌≡◌, refl, ◌∙◌}
use mathlib.Core.List.{List, []}
use Prim.Native.Nat.{ℕ, ◌+◌, ◌*◌, ◌^◌, ◌<◌}
use native.Mathlib.Omega.{arith}
use lib.Dec.{T, leb, leb→le}
use lib.IntN.{ℤ, nat_abs}
use lib.ListN.{length, get_or}
use lib.Signed.{mag}
use mir.Syntax.{w32}
use mir.Val.{hbits, to_z, of_z}
use Rattle.lists.specs.Tests.{each}
use Rattle.lists.proofs.TestLaws.{test_each, each_get}
use Rattle.integer.specs.Within.{◌within◌}
use Rattle.integer.proofs.Machine.{back_ok}
use Rattle.amplitude.specs.Parts.{shares, part}
use Rattle.measuring.specs.Folded.{column, combined, PartsLike}
use Rattle.measuring.proofs.PartLaws.{row_part, placed_none, placed_more}
use Rattle.measuring.proofs.Folded.new.Goals as goal

-- the array of zeros
zeros_like : {f : List ℤ} → length f ≡ 72 → T (each (λ x. leb (nat_abs x) 0) f) → PartsLike f
zeros_like {f} e t =
    record {
      long = e;
      small =
          each_get
          {P = λ x. x within 12800000}
          (test_each (λ x. leb (nat_abs x) 0) (λ x h. record { size = omega (arith, leb→le (nat_abs x) 0 h) }) f t)
          (record { size = omega arith });
    }

pub loop-i-init : goal.loop-i-init
loop-i-init c = placed_none (zeros_like refl tt)

-- the sum with the shares of a part is that part
stored : (win : List ℤ) (p i : ℕ) {x : ℤ} → mag x < 2 ^ hbits w32 → x ≡ combined win (get_or shares p []) i → to_z w32 (of_z w32 x) ≡ part p (column win i)
stored win p i {x} ok e = back_ok w32 x ok ∙ e ∙ row_part win p i

pub loop-i-preserved : goal.loop-i-preserved
loop-i-preserved c =
    let z = c.requires.window in
    let win = c.args.win.now in
    let i = c.loop-i.i in
    let l : i < 12 = omega arith in
    let p0 = placed_more z 0 i c.loop-i.invariant l (omega arith) (omega arith) (omega arith) (stored win 0 i c.combined-c.type_inv c.combined-c.ensures) in
    let p1 = placed_more z 1 (12 + i) p0 l (omega arith) (omega arith) (omega arith) (stored win 1 i c.combined-c3.type_inv c.combined-c3.ensures) in
    let p2 = placed_more z 2 (24 + i) p1 l (omega arith) (omega arith) (omega arith) (stored win 2 i c.combined-s.type_inv c.combined-s.ensures) in
    let p3 = placed_more z 3 (36 + i) p2 l (omega arith) (omega arith) (omega arith) (stored win 3 i c.combined-s3.type_inv c.combined-s3.ensures) in
    let p4 = placed_more z 4 (48 + i) p3 l (omega arith) (omega arith) (omega arith) (stored win 4 i c.combined-c2.type_inv c.combined-c2.ensures) in
    let p5 = placed_more z 5 (60 + i) p4 l (omega arith) (omega arith) (omega arith) (stored win 5 i c.combined-s2.type_inv c.combined-s2.ensures) in
    let six : 6 * i + 1 + 1 + 1 + 1 + 1 + 1 ≡ 6 * (i + 1) = omega arith in
    rw six at p5
