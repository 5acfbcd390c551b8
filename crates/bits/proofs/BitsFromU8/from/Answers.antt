-- The bits of a number, by definition.
use mathlib.Core.Path.{refl}
use Rattle.bits.specs.Bits.{bits_of}
use Rattle.bits.proofs.BitsFromU8.from.Goals as goal

pub returns : goal.returns
unfolding bits_of
returns c = refl
