-- A fault fed from one end: D and R are the amplitude of that end, and with R at most D a system starts exactly when D > P. Then the distance from P to the limits
-- of a healthy bank, by the limits of a setting.
use mathlib.Core.Path.{sym, ◌∙◌}
use native.Mathlib.Nat.{le_refl}
use native.Mathlib.Omega.{arith}
use Rattle.setting.proofs.LimitLaws.{startable_is}
use Rattle.amplitude.proofs.PeakLaws.{peak_small}
use Rattle.characteristic.specs.OneEnd.{StartsAboveP}
use Rattle.characteristic.proofs.OneEnd.{starts_above_P}
use Rattle.measuring.specs.Measuring.{differential}
use Rattle.measuring.specs.OneEnd.{OneEndAmplitude}
use Rattle.measuring.proofs.OneEnd.{one_end_amplitude}
use Rattle.stability.proofs.Demand3.{stability}
use Rattle.sensitivity.specs.OneEnd.{OneEndStarts}
use Rattle.sensitivity.specs.TwoSides.{Distance, TwoSides}

pub one_end_starts : OneEndStarts
unfolding OneEndStarts OneEndAmplitude StartsAboveP
one_end_starts v s win l z fed =
    let (d, r) = one_end_amplitude v win l z fed in
    let same = r ∙ sym d in
    (same, rw same (starts_above_P v s (differential v win l) (differential v win l) (le_refl (differential v win l))))

distance : Distance
unfolding Distance
distance v s = let k = startable_is v s in (omega (arith, peak_small v.ends k.limits.four), k.basic.least)

pub two_sides : TwoSides
unfolding TwoSides
two_sides = (stability, one_end_starts, distance)
