-- What is new after a set: all that starts, where nothing started before; and sets that raise no flag.
use mathlib.Core.Path.{◌≡◌, refl, sym, ap, ◌∙◌}
use mathlib.Core.Bool.{Bool, true, false, not, ◌||◌, true≢false}
use lib.Dec.{T}
use Rattle.lists.specs.Tests.{hold}
use Rattle.bits.specs.declared.Bits.{Bits}
use Rattle.bits.specs.Bits.{some}
use Rattle.measuring.specs.declared.Reading.{Reading}
use Rattle.state.specs.declared.Element.{Element}
use Rattle.systems.specs.declared.Systems.{Systems}
use Rattle.state.specs.State.{latches_of}
use Rattle.page.specs.declared.Events.{Events}
use Rattle.page.specs.Events.{within, new, new_flags, raised}
use Rattle.page.specs.Page.{starts_of}
use Rattle.page.specs.PageInput.{nothing_new}
use Rattle.page.proofs.EventLaws.{no_bit, none_set, without_none, raised_none}

-- where nothing started before, whatever starts is new
pub all_new : (now : Bits) → some now ≡ new no_bit now
all_new now = ap (λ (b : Bits). some b) (without_none now)

-- ---- a set that raises nothing

neither : (a b : Bool) → not (a || b) ≡ true → (a ≡ false) × (b ≡ false)
neither true b e = absurd (true≢false (sym e))
neither false true e = absurd (true≢false (sym e))
neither false false e = (refl, refl)

pub nothing_raised : (e : Events) → T (hold (within e)) → (before : Bits) (m : Systems Reading) (t u : Systems Element) → nothing_new m t u ≡ true →
    e ≡ raised (new_flags before (starts_of m) (latches_of t) (latches_of u)) e
nothing_raised e h before m t u q =
    let (starts, trips) = neither (some (starts_of m)) (new (latches_of t) (latches_of u)) q in
    let none : new_flags before (starts_of m) (latches_of t) (latches_of u) ≡ no_bit =
    λ i. record { b0 = new before (none_set (starts_of m) starts i); b1 = trips i; b2 = false } in
    sym (ap (λ (b : Bits). raised b e) none ∙ raised_none e h)
