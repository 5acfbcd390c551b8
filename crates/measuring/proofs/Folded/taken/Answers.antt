-- `measuring::Folded::taken` meets its contract, by its tests.
use borrow.Author.Tests.{ne_eqb}
use mathlib.Core.Path.{◌≡◌}
use mathlib.Core.Logic.{◌≢◌, ◌⊎◌, inl, inr}
use mathlib.Core.Bool.{Bool, true, and-false}
use Prim.Native.Nat.{ℕ, ◌*◌}
use lib.Dec.{eqb}
use Rattle.measuring.specs.Ends.{taken}
use Rattle.measuring.proofs.Folded.taken.Goals as goal

pub returns-then-not-asked : goal.returns-then-not-asked
unfolding taken
returns-then-not-asked c = rw (c.if-self-eq2.true, c.if-not-asked.true)

-- the other ends, and those that are asked for
all : (E : ℕ) (asked : Bool) → ((E ≡ 2) × (asked ≡ true)) ⊎ (E ≢ 2) → 3 * E ≡ taken E asked
unfolding taken
all E asked (inl h) = rw (h.1, and-false (eqb E 2))
all E asked (inr n) = rw (ne_eqb E 2 n)

pub returns-else-self-eq2 : goal.returns-else-self-eq2
returns-else-self-eq2 c = all _ _ c.else-self-eq2.either
