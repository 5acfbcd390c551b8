-- A quiet system (§ The three demands 3): with a D as small as a healthy bank's, nothing starts and nothing counts.
use Rattle.std.specs.Prelude.{◌≡◌, Bool, false, ℕ, ◌≤◌}
use Rattle.setting.specs.declared.Setting.{Setting}
use Rattle.characteristic.specs.Characteristic.{starts, counts}

-- For every P of at least 100 and H of at least 2,500, a system with a D of at most 91 does not start and does not count, whatever R, twice the
-- restraint, is and whether or not it is blocked, that is, for any H2 and H5.
unfoldable pub QuietBound : Type 0
QuietBound =
    (v : Setting) → 100 ≤ v.thresholds.basic → 2500 ≤ v.thresholds.high → (D : ℕ) → D ≤ 91 → (R : ℕ) (blocked : Bool) →
    (starts v D R ≡ false) × (counts v D (starts v D R) blocked ≡ false)
