-- `characteristic::harmonics` meets its contract: its two parts are those of the definition.
use Rattle.characteristic.specs.Characteristic.{has_harmonics}
use Rattle.characteristic.proofs.harmonics.Goals as goal

pub returns-then-harmonic : goal.returns-then-harmonic
unfolding has_harmonics
returns-then-harmonic c = rw (← c.harmonic.ensures, c.if-harmonic.true)

pub returns-else-harmonic : goal.returns-else-harmonic
unfolding has_harmonics
returns-else-harmonic c = rw (← c.harmonic.ensures, c.if-harmonic.false, c.harmonic-else-harmonic.ensures)
