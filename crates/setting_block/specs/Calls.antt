-- The setting reader and writer (§ The order of refusals 1 and 2).
use Rattle.std.specs.Prelude.{◌≡◌, not, List, [], ◌∷◌, ◌++◌, ℕ, eqb, ltb, length, Result}
use Rattle.refusal.specs.declared.Refusal.{Refusal}
use Rattle.refusal.specs.Refusals.{Outcome, by_outcome, outcome_of, Row, ◌when◌, first_of, first_refusal}
use Rattle.block.specs.Block.{checked, buffer_with}
use Rattle.setting.specs.declared.Field.{Field}
use Rattle.setting.specs.declared.Setting.{Setting}
use Rattle.setting.specs.Values.{fields, value_rows, store_rows}
use Rattle.setting_block.specs.Layout.{setting_at, marked, spares, block_of}

-- ---- the reader

-- the fields and zero bytes of a block
abbrev pub block_fields : List ℕ → List Field
block_fields s = fields (setting_at s) ++ spares s

-- what the reader declines a block with, in order
unfoldable pub read_rows : List ℕ → List Row
read_rows s =
    (1 when not (eqb (length s) 512))
    ∷ (2 when not (checked s))
    ∷ (3 when not (marked s))
    ∷ value_rows (block_fields s) (setting_at s)

abbrev pub read_of : List ℕ → Outcome Setting
read_of s = first_of (read_rows s) (setting_at s)

-- what reading the block s gives
abbrev pub Reads : List ℕ → Result Setting Refusal → Type 0
Reads s r = outcome_of r ≡ read_of s

-- ---- the writer

-- 4 to 7, then 13: the buffer ends before the block does
unfoldable pub write_rows : Setting → (buffer : List ℕ) → List Row
write_rows v buffer = store_rows v ++ ((13 when ltb (length buffer) 512) ∷ [])

abbrev pub write_of : Setting → (buffer : List ℕ) → Outcome (Unit {0})
write_of v buffer = first_refusal (write_rows v buffer)

-- the buffer after the call: the block as its first 512 bytes, or as before
abbrev pub write_leaves : Setting → (buffer : List ℕ) → List ℕ
write_leaves v buffer = by_outcome (write_of v buffer) (λ refusal. buffer) (λ done. buffer_with buffer (block_of v))

-- what writing the values v to a buffer gives
pub record Writes (v : Setting) (before : List ℕ) (r : Result (Unit {0}) Refusal) (after : List ℕ) : Type 0 where
  pub outcome : outcome_of r ≡ write_of v before
  pub bytes : after ≡ write_leaves v before
