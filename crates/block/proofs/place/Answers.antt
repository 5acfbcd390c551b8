-- `block::place` meets its contract: a block has the 512 bytes that `copy_from_slice` asks for.
use borrow.Author.Rules.{rules}
use mathlib.Core.Path.{◌≡◌}
use native.Mathlib.Omega.{arith}
use lib.ListN.{length, length-take}
use Rattle.block.proofs.place.Goals as goal

pub copy_from_slice-requires : goal.copy_from_slice-requires
copy_from_slice-requires c =
    let l : length c.args.b ≡ 512 = search rules in
    simp length-take (omega arith)
