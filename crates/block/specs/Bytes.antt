-- Little-endian numbers (the low byte first; a sample is a signed 16-bit number, § Words and units), and runs of zero bytes.
use Rattle.std.specs.Prelude.{Bool, cond, List, [], ◌∷◌, ℕ, ◌+◌, ◌*◌, ◌-◌, ◌/◌, ◌%◌, ltb, eqb, ℤ, pos, negsuc, ◌-ℤ◌, get_or}
use Rattle.lists.specs.Tests.{each}

-- ---- numbers read from bytes

-- the number of two bytes, and of four, from a place on
abbrev pub u16_at : List ℕ → ℕ → ℕ
u16_at s at = get_or s at 0 + 256 * get_or s (at + 1) 0

abbrev pub u32_at : List ℕ → ℕ → ℕ
u32_at s at = get_or s at 0 + 256 * get_or s (at + 1) 0 + 65536 * get_or s (at + 2) 0 + 16777216 * get_or s (at + 3) 0

-- the signed number whose 16 bits are n: from 32,768 on, n − 65,536
abbrev pub signed : ℕ → ℤ
signed n = cond (ltb n 32768) (pos n) (pos n -ℤ pos 65536)

-- the signed number of two bytes from a place on
abbrev pub i16_at : List ℕ → ℕ → ℤ
i16_at s at = signed (u16_at s at)

-- ---- bytes of numbers

abbrev pub bytes16 : ℕ → List ℕ
bytes16 x = (x % 256) ∷ (x / 256 % 256) ∷ []

abbrev pub bytes32 : ℕ → List ℕ
bytes32 x = (x % 256) ∷ (x / 256 % 256) ∷ (x / 65536 % 256) ∷ (x / 16777216 % 256) ∷ []

-- the 16 bits of a signed number: of a negative one, those of x + 65,536
abbrev pub bits : ℤ → ℕ
bits (pos n) = n
bits (negsuc n) = 65535 - n

-- ---- runs of zeros, and what a list of bytes is

unfoldable pub zeros : List ℕ → Bool
zeros s = each (λ x. eqb x 0) s

-- each number of the list is a byte
abbrev pub are_bytes : List ℕ → Bool
are_bytes s = each (λ x. ltb x 256) s
