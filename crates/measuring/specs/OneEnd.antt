-- A fault fed from one end: current flows into the bank at that end alone, and none that is measured leaves it (§ Amplitudes 6 and 7).
use Rattle.std.specs.Prelude.{◌≡◌, ◌≢◌, List, ℕ, ◌<◌, ℤ, pos}
use Rattle.setting.specs.declared.Setting.{Setting}
use Rattle.matching.specs.Sets.{System}
use Rattle.amplitude.specs.Amplitude.{amplitude}
use Rattle.measuring.specs.Window.{at, series}
use Rattle.measuring.specs.Measuring.{differential, twice_restraint}

-- A system is fed from end z: at each of the twelve sets its matched numbers of all other ends in use are zero.
pub record FedFrom (ends : ℕ) (win : List ℤ) (l : System) (z : ℕ) : Type 0 where
  pub in_use : z < ends
  pub others_zero : (k e : ℕ) → k < 12 → e < ends → e ≢ z → at win k e l ≡ pos 0

-- Then D is that end's amplitude, and so is R, twice the restraint, also where it is the end that is subtracted.
unfoldable pub OneEndAmplitude : Type 0
OneEndAmplitude =
    (v : Setting) (win : List ℤ) (l : System) (z : ℕ) → FedFrom v.ends win l z →
    (differential v win l ≡ amplitude 1 (series win z l)) × (twice_restraint v.ends win l ≡ amplitude 1 (series win z l))
