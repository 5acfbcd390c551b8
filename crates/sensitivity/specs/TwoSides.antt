-- The distance between what never starts and what always does, for planners.
use Rattle.std.specs.Prelude.{◌≤◌, ◌<◌, T}
use Rattle.setting.specs.declared.Setting.{Setting}
use Rattle.setting.specs.Values.{startable}
use Rattle.amplitude.specs.Peak.{peak}
use Rattle.stability.specs.Stability.{Stability}
use Rattle.sensitivity.specs.OneEnd.{OneEndStarts}

-- on every setting that a relay can be started on, the limits of 45, 69, 91 lie below 100, and P does not
unfoldable pub Distance : Type 0
Distance = (v : Setting) → T (startable v) → (peak v.ends < 100) × (100 ≤ v.thresholds.basic)

-- Every healthy bank has D at most 45, 69, 91; every fault fed from one end, with D above P, starts; and P is at least 100.
unfoldable pub TwoSides : Type 0
TwoSides = Stability × OneEndStarts × Distance
