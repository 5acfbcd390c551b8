-- The register page of 64 bytes (§ The register page): by the latches, what is shown of the last accepted set, and the events.
use Rattle.std.specs.Prelude.{Bool, false, ◌||◌, cond, ℕ, ltb, eqb, replicate}
use mathlib.Core.List.{List, [], ◌∷◌, ◌++◌, map, flatten}
use Rattle.bits.specs.declared.Bits.{Bits}
use Rattle.bits.specs.Bits.{mask_of}
use Rattle.block.specs.Bytes.{bytes32}
use Rattle.measuring.specs.declared.Reading.{Reading}
use Rattle.state.specs.declared.Element.{Element}
use Rattle.systems.specs.declared.Systems.{Systems}
use Rattle.measuring.specs.Measuring.{readings_of}
use Rattle.setting.specs.declared.Setting.{Setting}
use Rattle.state.specs.declared.Window.{Window}
use Rattle.state.specs.State.{full, latches_of}
use Rattle.page.specs.declared.Events.{Events}
use Rattle.page.specs.Events.{interrupt}

-- the systems that start, and those that are blocked
abbrev pub starts_of : Systems Reading → Bits
starts_of m = record { b0 = m.a.start; b1 = m.b.start; b2 = m.c.start }

abbrev pub blocks_of : Systems Reading → Bits
blocks_of m = record { b0 = m.a.blocked; b1 = m.b.blocked; b2 = m.c.blocked }

-- D1, R1, D2, R2, D3, R3, with R twice the restraint
abbrev pub currents : Systems Reading → List ℕ
currents m = m.a.d ∷ m.a.r ∷ m.b.d ∷ m.b.r ∷ m.c.d ∷ m.c.r ∷ []

unfoldable pub page : Systems Element → Systems Reading → Events → List ℕ
page t m e =
    -- Bytes 0, 1, 2 hold latched, started and blocked masks (bit 0 is system 1).
    mask_of (latches_of t) ∷ mask_of (starts_of m) ∷ mask_of (blocks_of m)
    -- Byte 3 holds event flags. Byte 4 is the interrupt mask, 5 is 1 while a flag and its mask bit are both set.
    ∷ e.flags ∷ e.mask ∷ interrupt e
    ∷ 0 ∷ 0
    -- From 8 come D1, R1, D2, R2, D3, R3, four bytes each.
    ∷ (flatten (map bytes32 (currents m))
    -- Others read zero.
    ++ replicate 32 0)

-- nothing measured: all zero
abbrev zero : Reading
zero = record { d = 0; r = 0; h2 = 0; h5 = 0; start = false; blocked = false }

abbrev pub nothing : Systems Reading
nothing = record { a = zero; b = zero; c = zero }

-- masks and currents of the last accepted set, zero unless the window is full (§ The register page 1)
abbrev pub shown : Setting → Window → Systems Reading
shown v w = cond (full w) (readings_of v w.values) nothing

-- the bytes that show what is measured: 1, 2 and 8 to 31
abbrev pub measured_at : ℕ → Bool
measured_at at = cond (ltb at 8) (eqb at 1 || eqb at 2) (ltb at 32)
