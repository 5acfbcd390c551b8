-- Two notions (§ The setting block 6): values that a block may hold, and values that a relay can be started on.
use Rattle.std.specs.Prelude.{◌≡◌, [], ◌∷◌, ◌↔◌, ◌≤◌, T}
use Rattle.refusal.specs.Refusals.{◌when◌, first_refusal}
use Rattle.setting.specs.declared.Setting.{Setting}
use Rattle.setting.specs.Values.{storable, falling, start_rows, startable}

-- A relay can be started on just those values that a block may hold and in which m2 is not less than m1.
unfoldable pub StartableIs : Type 0
StartableIs = (v : Setting) → T (startable v) ↔ (T (storable v) × v.thresholds.slope1 ≤ v.thresholds.slope2)

-- Of values that a block may hold, such as a reader gives, a start tells 17 or nothing: what the host's measuring call and the bench meet between the
-- setting block's own refusals and any sample block.
unfoldable pub StartAfterReading : Type 0
StartAfterReading = (v : Setting) → T (storable v) → first_refusal (start_rows v) ≡ first_refusal ((17 when falling v.thresholds) ∷ [])
