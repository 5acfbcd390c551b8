-- Three bits (masks, flags and written values, § The register page), each by its place, and as a number.
use Rattle.std.specs.Prelude.{Bool, not, ◌&&◌, ◌||◌, cond, ℕ, ◌+◌, ◌/◌, ◌%◌, eqb}
use Rattle.bits.specs.declared.Bits.{Bits}

-- the low three bits of a number, the lowest being bit 0
unfoldable pub bits_of : ℕ → Bits
bits_of n = record { b0 = eqb (n % 2) 1; b1 = eqb (n / 2 % 2) 1; b2 = eqb (n / 4 % 2) 1 }

-- the number of three bits
unfoldable pub mask_of : Bits → ℕ
mask_of b = cond b.b0 1 0 + (cond b.b1 2 0 + cond b.b2 4 0)

-- the bits of either; those in both; those of a that are not in b
abbrev pub either : (a b : Bits) → Bits
either a b = record { b0 = a.b0 || b.b0; b1 = a.b1 || b.b1; b2 = a.b2 || b.b2 }

abbrev pub both : (a b : Bits) → Bits
both a b = record { b0 = a.b0 && b.b0; b1 = a.b1 && b.b1; b2 = a.b2 && b.b2 }

abbrev pub without : (a b : Bits) → Bits
without a b = record { b0 = a.b0 && not b.b0; b1 = a.b1 && not b.b1; b2 = a.b2 && not b.b2 }

-- one of the three is set
abbrev pub some : Bits → Bool
some b = b.b0 || (b.b1 || b.b2)
