-- A system whose R, twice the restraint, is at most D, as at a fault fed from one end, where R = D: where it starts, and why slopes end below 200 percent
-- (§ Characteristic and trip 1).
use Rattle.std.specs.Prelude.{◌≡◌, ◌↔◌, true, false, ℕ, ◌*◌, ◌≤◌, ◌<◌, T}
use Rattle.setting.specs.declared.Setting.{Setting}
use Rattle.setting.specs.Values.{startable}
use Rattle.characteristic.specs.Characteristic.{starts}

-- On every setting that a relay can be started on, a system with R at most D starts exactly when D > P, in whichever section it lies.
unfoldable pub StartsAboveP : Type 0
StartsAboveP = (v : Setting) → T (startable v) → (D R : ℕ) → R ≤ D → (starts v D R ≡ true) ↔ (v.thresholds.basic < D)

-- With slopes of 200 percent R, twice the restraint, would outweigh a D that is no larger: with m1 at 200 or more it would start at no D = R up to 2Q,
unfoldable pub BlindBySlope1 : Type 0
BlindBySlope1 = (v : Setting) → 200 ≤ v.thresholds.slope1 → (D : ℕ) → D ≤ 2 * v.thresholds.knee → starts v D D ≡ false

-- and with m2 above 200 at no D = R from 402·Q on.
unfoldable pub BlindBySlope2 : Type 0
BlindBySlope2 = (v : Setting) → 200 < v.thresholds.slope2 → (D : ℕ) → 402 * v.thresholds.knee ≤ D → starts v D D ≡ false
