-- Slopes that fall (§ Characteristic and trip 8): why a relay is not started on them.
use Rattle.std.specs.Prelude.{◌≡◌, true, ℕ, ◌+◌, ◌*◌, ◌-◌, ◌≤◌, ◌<◌, T}
use Rattle.refusal.specs.Refusals.{declines, alone, done, first_refusal}
use Rattle.setting.specs.declared.Setting.{Setting}
use Rattle.setting.specs.declared.Thresholds.{Thresholds}
use Rattle.setting.specs.Values.{store_rows, storable, falling, start_rows, startable}
use Rattle.setting.specs.Worked.{fallen}
use Rattle.characteristic.specs.Characteristic.{starts}

-- the second section's line, 200·P + m1·(R − P) with R twice the restraint, carried on: it is that section's for R up to 2Q
abbrev pub second_line : Thresholds → (R : ℕ) → ℕ
second_line t R = 200 * t.basic + t.slope1 * (R - t.basic)

-- For every setting that a relay can be started on, a system that starts with R above 2Q lies above that line as well: heavy through-current never makes
-- the relay more eager than its second section.
unfoldable pub NotMoreEager : Type 0
NotMoreEager =
    (v : Setting) → T (startable v) → (D R : ℕ) → 2 * v.thresholds.knee < R → starts v D R ≡ true → second_line v.thresholds R < 200 * D

-- a D and an R above 2Q at which a system starts, and does not lie above that line
pub record MoreEager (v : Setting) : Type 0 where
  pub D : ℕ
  pub R : ℕ
  pub heavy : 2 * v.thresholds.knee < R
  pub started : starts v D R ≡ true
  pub not_above : 200 * D ≤ second_line v.thresholds R

-- Every setting that a block may hold and whose slopes fall has such a D and R: of these 17 declines none without need.
unfoldable pub FallingEager : Type 0
FallingEager = (v : Setting) → T (storable v) → T (falling v.thresholds) → MoreEager v

-- P 200, m1 70, m2 30, Q 4,000: a block may hold it, and a start declines it with 17. With R 10,000 it would start at D 3,231; the line is at 3,630.
unfoldable pub FallenEager : Type 0
FallenEager =
    (first_refusal (store_rows fallen) ≡ done)
    × (first_refusal (start_rows fallen) ≡ declines (alone 17))
    × (starts fallen 3231 10000 ≡ true)
    × (second_line fallen.thresholds 10000 ≡ 200 * 3630)
