-- The verdict on setting values (§ The order of refusals 2 and 5): of the setting writer, 4 to 7, and of starting a fresh relay from setting values, 4,
-- 5, 17, 6, 7.
use Rattle.std.specs.Prelude.{◌≡◌, List, ◌++◌, ℕ, Option, Result}
use Rattle.refusal.specs.declared.Refusal.{Refusal}
use Rattle.refusal.specs.Refusals.{first_refusal, outcome_of}
use Rattle.setting.specs.declared.Field.{Field}
use Rattle.setting.specs.declared.Setting.{Setting}
use Rattle.setting.specs.Values.{fields, lowest, field_rows, factor_rows, value_rows, store_rows, start_rows}

-- whether a block may hold the values v
abbrev pub Judges : Setting → Result (Unit {0}) Refusal → Type 0
Judges v r = outcome_of r ≡ first_refusal (store_rows v)

-- whether a relay can be started on the values v
abbrev pub JudgesStart : Setting → Result (Unit {0}) Refusal → Type 0
JudgesStart v r = outcome_of r ≡ first_refusal (start_rows v)

-- the verdict on the values v where further fields were searched beside theirs, with the offset of a fault if they have one
abbrev pub JudgesBeside : Setting → (beside : Option ℕ) → Result (Unit {0}) Refusal → Type 0
JudgesBeside v beside r = (gs : List Field) → beside ≡ lowest gs → outcome_of r ≡ first_refusal (value_rows (fields v ++ gs) v)

-- its two parts: the fields, and the factors
abbrev pub JudgesFields : Setting → (beside : Option ℕ) → Result (Unit {0}) Refusal → Type 0
JudgesFields v beside r = (gs : List Field) → beside ≡ lowest gs → outcome_of r ≡ first_refusal (field_rows (fields v ++ gs) v)

abbrev pub JudgesFactors : Setting → Result (Unit {0}) Refusal → Type 0
JudgesFactors v r = outcome_of r ≡ first_refusal (factor_rows v)
