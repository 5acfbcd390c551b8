-- What a block holds (§ The setting block 6: slopes that fall can be read). That it is written back to the same bytes is `ReadThenWrite`.
use Rattle.std.specs.Prelude.{◌≡◌, List, ℕ, T}
use Rattle.refusal.specs.Refusals.{gives}
use Rattle.setting.specs.declared.Setting.{Setting}
use Rattle.setting.specs.Values.{storable}
use Rattle.setting.specs.Worked.{fallen}
use Rattle.setting_block.specs.Layout.{block_of}
use Rattle.setting_block.specs.Calls.{read_of}

-- whatever the reader gives, a block may hold
unfoldable pub ReadHeld : Type 0
ReadHeld = (s : List ℕ) (v : Setting) → read_of s ≡ gives v → T (storable v)

-- the block of whatever a block may hold is read, to the same values
unfoldable pub HeldRead : Type 0
HeldRead = (v : Setting) → T (storable v) → read_of (block_of v) ≡ gives v

-- among them m1 70 and m2 30
unfoldable pub FallenRead : Type 0
FallenRead = read_of (block_of fallen) ≡ gives fallen
