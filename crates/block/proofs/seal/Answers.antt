-- `block::seal` meets its contract: the two stores after the first 510 bytes leave these, and the two sums.
use borrow.Author.Rules.{rules}
use mathlib.Core.Path.{◌≡◌, sym, ◌∙◌}
use mathlib.Core.List.{[], ◌∷◌, append-nil}
use native.Mathlib.Omega.{arith}
use lib.ListN.{length, take, length-take, drop_of_length-le}
use lib.Seq.{length-take-le, sets-eq}
use Rattle.block.specs.Block.{sums_of}
use Rattle.block.proofs.seal.Goals as goal

pub slice_bounds-check_sums-end : goal.slice_bounds-check_sums-end
slice_bounds-check_sums-end c =
    let h : length c.args.b ≡ 512 = search rules in
    sym (length-take-le _ c.args.b (omega arith))

pub check_sums-c-requires : goal.check_sums-c-requires
check_sums-c-requires c = let h : length c.args.b ≡ 512 = search rules in simp length-take (omega arith)

pub returns : goal.returns
returns c =
    let b = c.args.b in
    let h : length b ≡ 512 = search rules in
    let e : c.check_sums-c.result ≡ sums_of (take 510 b) = c.check_sums-c.ensures in
    sets-eq (c.check_sums-c.result.a ∷ c.check_sums-c.result.b ∷ []) b 510 (omega arith)
    ∙ rw (drop_of_length-le b {i = 512} (omega arith), append-nil, e)
