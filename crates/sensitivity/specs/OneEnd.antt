-- A fault fed from one end, the other side of demand 3: whatever setting a planner chooses, the relay is not blind to it (§ Characteristic and trip 1).
use Rattle.std.specs.Prelude.{◌≡◌, ◌≢◌, ◌↔◌, true, List, map, ℕ, ◌<◌, T, ℤ, pos, length}
use Rattle.lists.specs.Tests.{Each}
use Rattle.setting.specs.declared.Setting.{Setting}
use Rattle.setting.specs.Values.{startable}
use Rattle.matching.specs.Matching.{three}
use Rattle.matching.specs.Sets.{System, phases, numbers}
use Rattle.measuring.specs.Measuring.{differential, twice_restraint, start}
use Rattle.measuring.specs.OneEnd.{FedFrom}
use Rattle.stability.specs.Lists.{window_of}

-- For every setting that a relay can be started on, every window, every system and every end in use: if the system is fed from that end, then R, twice
-- the restraint, is D, and it starts exactly when D > P. The slopes, which hold it back at through-current, take nothing from it.
unfoldable pub OneEndStarts : Type 0
OneEndStarts =
    (v : Setting) → T (startable v) → (win : List ℤ) (l : System) (z : ℕ) → FedFrom v.ends win l z →
    (twice_restraint v.ends win l ≡ differential v win l) × ((start v win l ≡ true) ↔ (v.thresholds.basic < differential v win l))

-- ---- by samples

-- no current but at end z: the samples of all other ends in use are zero
abbrev pub AtEnd : Setting → (z : ℕ) → List ℤ → Type 0
AtEnd v z xs = (e : ℕ) → e < v.ends → e ≢ z → phases xs e ≡ three (pos 0) (pos 0) (pos 0)

-- Where the twelve sets of a window have current at one end alone, every system is fed from it, whatever ratio, group and filter are set.
unfoldable pub OneEndSamples : Type 0
OneEndSamples =
    (v : Setting) → T (startable v) → (sets : List (List ℤ)) (z : ℕ) → length sets ≡ 12 → z < v.ends → Each (AtEnd v z) sets → (l : System) →
    FedFrom v.ends (window_of (map (numbers v) sets)).values l z
