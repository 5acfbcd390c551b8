-- `page::interrupt` meets its contract, by those of its callees.
use mathlib.Core.Path.{◌≡◌, refl}
use mathlib.Core.Bool.{Bool, true, false, cond}
use Rattle.std.specs.Int.{from_bool}
use Rattle.page.specs.Events.{interrupt}
use Rattle.page.proofs.interrupt.Goals as goal

one : (b : Bool) → from_bool b ≡ cond b 1 0
one true = refl
one false = refl

pub returns : goal.returns
unfolding interrupt
returns c = rw (c.from-3.ensures, c.some.ensures, c.bitand.ensures, c.from.ensures, c.from-2.ensures) (one _)
