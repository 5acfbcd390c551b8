-- Reading and writing undo each other (§ The three demands 2).
use Rattle.std.specs.Prelude.{◌≡◌, List, ◌++◌, ℕ, ◌≤◌, T, length, take, drop}
use Rattle.refusal.specs.Refusals.{gives, done}
use Rattle.block.specs.Bytes.{are_bytes}
use Rattle.setting.specs.declared.Setting.{Setting}
use Rattle.setting_block.specs.Calls.{read_of, write_of, write_leaves}

-- whatever the reader accepts is written back to the same 512 bytes
unfoldable pub ReadThenWrite : Type 0
ReadThenWrite =
    (s : List ℕ) (v : Setting) → T (are_bytes s) → read_of s ≡ gives v →
    (buffer : List ℕ) → 512 ≤ length buffer → (write_of v buffer ≡ done) × (write_leaves v buffer ≡ s ++ drop 512 buffer)

-- whatever the writer writes is read back to the same values
unfoldable pub WriteThenRead : Type 0
WriteThenRead = (v : Setting) (buffer : List ℕ) → write_of v buffer ≡ done → read_of (take 512 (write_leaves v buffer)) ≡ gives v
