-- `block::checked` meets its contract: the part that is summed is the first 510 bytes.
use borrow.Author.Rules.{rules}
use mathlib.Core.Path.{◌≡◌, sym}
use native.Mathlib.Omega.{arith}
use lib.ListN.{length}
use lib.Seq.{length-take-le}
use Rattle.block.proofs.checked.Goals as goal

pub slice_bounds-check_sums-end : goal.slice_bounds-check_sums-end
slice_bounds-check_sums-end c =
    let h : length c.args.s.now ≡ 512 = search rules in
    sym (length-take-le _ c.args.s.now (omega arith))
