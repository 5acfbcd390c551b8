-- The setting block's 512 bytes (§ The setting block).
use Rattle.std.specs.Prelude.{◌≡◌, Bool, false, ◌&&◌, List, [], ◌∷◌, ◌++◌, map, ℕ, ◌+◌, ◌*◌, ◌≤◌, eqb, length, get_or, take, drop, replicate}
use Rattle.lists.specs.Lists.{up_to}
use Rattle.block.specs.Bytes.{u16_at, u32_at, bytes16, bytes32}
use Rattle.block.specs.Block.{sealed}
use Rattle.setting.specs.declared.End.{End}
use Rattle.setting.specs.declared.Field.{Field}
use Rattle.setting.specs.declared.Setting.{Setting}

-- ---- what stands where

-- the end whose bytes begin at an offset
abbrev pub end_at : List ℕ → ℕ → End
end_at s at = record { voltage = u32_at s at; current = u32_at s (at + 4); group = get_or s (at + 8) 0; filter = get_or s (at + 9) 0 }

unfoldable pub setting_at : List ℕ → Setting
setting_at s =
    record {
      ends = get_or s 4 0;
      flags = get_or s 5 0;
      confirm = get_or s 6 0;
      power = u32_at s 8;
      e0 = end_at s 12;
      e1 = end_at s 24;
      e2 = end_at s 36;
      e3 = end_at s 48;
      thresholds =
          record {
            basic = u16_at s 60;
            high = u16_at s 62;
            slope1 = u16_at s 64;
            slope2 = u16_at s 66;
            knee = u16_at s 68;
            second = u16_at s 70;
            fifth = u16_at s 72;
          };
      overcurrent = record { pickup = u16_at s 74; curve = get_or s 76 0 };
    }

-- 0 to 3: the mark
abbrev pub marked : List ℕ → Bool
marked s = eqb (get_or s 0 0) 0x54 && (eqb (get_or s 1 0) 0x44 && (eqb (get_or s 2 0) 0x50 && eqb (get_or s 3 0) 0x31))

-- the zero bytes: 7; the last two of each end; 77 to 509
abbrev pub end_spares : ℕ → List ℕ
end_spares z = (22 + 12 * z) ∷ (23 + 12 * z) ∷ []

abbrev pub few_spares : List ℕ
few_spares = 7 ∷ (end_spares 0 ++ (end_spares 1 ++ (end_spares 2 ++ end_spares 3)))

abbrev pub spare_offsets : List ℕ
spare_offsets = few_spares ++ up_to 433 (λ k. 77 + k)

-- each zero byte is a field by itself (§ The setting block 4), which is never in use
abbrev pub spare : List ℕ → ℕ → Field
spare s at = (at, false, 0, 0, get_or s at 0)

unfoldable pub spares : List ℕ → List Field
spares s = map (spare s) spare_offsets

-- ---- the block of setting values

-- a list before and after a piece is put at a place in it
pub record Laid (before : List ℕ) (at : ℕ) (piece after : List ℕ) : Type 0 where
  pub place : at ≤ length before
  pub bytes : after ≡ take at before ++ piece ++ drop (at + length piece) before

abbrev pub end_bytes : End → List ℕ
end_bytes e = bytes32 e.voltage ++ bytes32 e.current ++ (e.group ∷ e.filter ∷ 0 ∷ 0 ∷ [])

-- bytes 0 to 76
unfoldable pub header : Setting → List ℕ
header v =
    (0x54 ∷ 0x44 ∷ 0x50 ∷ 0x31 ∷ v.ends ∷ v.flags ∷ v.confirm ∷ 0 ∷ [])
    ++ bytes32 v.power
    ++ end_bytes v.e0
    ++ end_bytes v.e1
    ++ end_bytes v.e2
    ++ end_bytes v.e3
    ++ bytes16 v.thresholds.basic
    ++ bytes16 v.thresholds.high
    ++ bytes16 v.thresholds.slope1
    ++ bytes16 v.thresholds.slope2
    ++ bytes16 v.thresholds.knee
    ++ bytes16 v.thresholds.second
    ++ bytes16 v.thresholds.fifth
    ++ bytes16 v.overcurrent.pickup
    ++ (v.overcurrent.curve ∷ [])

-- 77 to 509 zero, then the check
unfoldable pub block_of : Setting → List ℕ
block_of v = sealed (header v ++ replicate 433 0)
