-- `page::current_byte` meets its contract, by the law of each part of the page (Offsets.antt).
use Rattle.page.proofs.Offsets.{spare_at, current_at, zero_at}
use mathlib.Core.Path.{sym, ap, ◌∙◌}
use mathlib.Core.List.{List}
use Prim.Native.Nat.{ℕ, ◌-◌, ◌%◌}
use lib.ListN.{get_or}
use Rattle.block.specs.Bytes.{bytes32}
use Rattle.page.proofs.current_byte.Goals as goal
use Rattle.page.proofs.current_byte.Goals.{then-at-lt8-via-then-at-lt8, then-at-lt8-via-else-at-lt8+then-at-ge32}

pub returns-then-at-lt8 : goal.returns-then-at-lt8
returns-then-at-lt8 c =
    elim c.then-at-lt8.branch [
      | then-at-lt8-via-then-at-lt8 w ↦ sym (spare_at _ _ _ _ c.requires w.if-at-lt8.true)
      | then-at-lt8-via-else-at-lt8+then-at-ge32 w ↦ sym (zero_at _ _ _ _ w.if-at-ge32.true)
    ]

pub returns : goal.returns
returns c =
    let a = c.args in
    ap (λ (w : List ℕ). get_or w ((a.at - 8) % 4) 0) (c.bytes_32-bytes.ensures ∙ ap bytes32 c.current.ensures)
    ∙ sym (current_at a.t a.m a.e a.at c.if-at-lt8.false c.if-at-ge32.false)
