-- `page::showing::byte_at` meets its contract: a byte that shows nothing measured is the same whatever is measured.
use mathlib.Core.Path.{◌≡◌, sym, ◌∙◌}
use mathlib.Core.Bool.{false}
use Rattle.page.specs.Page.{nothing, shown, measured_at}
use Rattle.page.proofs.Offsets.{unmeasured}
use Rattle.page.proofs.showing.byte_at.Goals as goal

pub returns : goal.returns
returns c =
    let a = c.args in
    let hidden : measured_at a.offset ≡ false = sym c.shows_measured.ensures ∙ c.if-shows_measured.false in
    c.byte-2.ensures ∙ rw c.nothing.ensures (unmeasured a.t nothing (shown a.v a.w) a.e a.offset hidden)
