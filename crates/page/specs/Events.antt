-- Event flags and the interrupt mask, which the relay record holds (§ The register page).
use Rattle.std.specs.Prelude.{Bool, true, false, cond, List, [], ◌∷◌, ℕ, ◌%◌, leb, eqb}
use Rattle.bits.specs.declared.Bits.{Bits}
use Rattle.bits.specs.Bits.{bits_of, mask_of, either, both, without, some}
use Rattle.page.specs.declared.Events.{Events}

-- 0 in a fresh relay
abbrev pub quiet : Events
quiet = record { flags = 0; mask = 0 }

-- inadmissible under 12 above 7
abbrev pub within : Events → List Bool
within e = leb e.flags 7 ∷ leb e.mask 7 ∷ []

-- A start or trip is new when that bit of its mask was 0 after the previous call (§ The register page 2).
abbrev pub new : (before now : Bits) → Bool
new before now = some (without now before)

-- The flags: bit 0 new start, bit 1 new trip, bit 2 refused set. Those that an accepted set raises, by the masks before it and now:
abbrev pub new_flags : (startsBefore startsNow latchesBefore latchesNow : Bits) → Bits
new_flags startsBefore startsNow latchesBefore latchesNow =
    record { b0 = new startsBefore startsNow; b1 = new latchesBefore latchesNow; b2 = false }

-- and a refused one:
abbrev pub refused_set : Bits
refused_set = record { b0 = false; b1 = false; b2 = true }

-- A flag that is raised stays so until it is cleared.
unfoldable pub raised : Bits → Events → Events
raised b e = record { flags = mask_of (either (bits_of e.flags) b); mask = e.mask }

-- Writing byte 3 clears the flags written as 1.
unfoldable pub lowered : ℕ → Events → Events
lowered x e = record { flags = mask_of (without (bits_of e.flags) (bits_of x)); mask = e.mask }

-- Byte 4 takes the low three bits.
unfoldable pub masked : ℕ → Events → Events
masked x e = record { flags = e.flags; mask = x % 8 }

-- what a write leaves of them: no other byte changes them
abbrev pub written : (offset byte : ℕ) → Events → Events
written offset byte e = cond (eqb offset 3) (lowered byte e) (cond (eqb offset 4) (masked byte e) e)

-- 1 while a flag and its mask bit are both set
unfoldable pub interrupt : Events → ℕ
interrupt e = cond (some (both (bits_of e.flags) (bits_of e.mask))) 1 0
