-- Text: the bytes of a string, a number in decimal, and text that is put at a place of a buffer.
use Rattle.std.specs.Prelude.{◌≡◌, cond, List, ◌++◌, ℕ, zero, suc, ◌+◌, ◌/◌, ◌≤◌, ltb, length}
use Prim.Native.Char.{code}
use Prim.Native.String.{String, len, char_at}
use Rattle.std.proofs.Math.Seq.{paste}
use Rattle.lists.specs.Lists.{up_to}
use Rattle.io.specs.Digits.{last_digits, IsDigitCount}

-- the bytes of a string in ASCII
unfoldable pub ascii : String → List ℕ
ascii s = up_to (len s) (λ i. code (char_at s i))

-- how many decimal digits a number has: one below ten, else one more than its tenth has. `most` bounds them.
unfoldable pub places_by : (most n : ℕ) → ℕ
places_by zero n = 1
places_by (suc most) n = cond (ltb n 10) 1 (places_by most (n / 10) + 1)

abbrev pub places : ℕ → ℕ
places n = places_by n n

-- these are the fewest that hold it
unfoldable pub FewestPlaces : Type 0
FewestPlaces = (n : ℕ) → IsDigitCount 10 1 n (places n)

-- a number's text: its decimal digits, the fewest
unfoldable pub decimal : ℕ → List ℕ
decimal n = last_digits 10 (places n) n

-- a field of a line: a space and a number
abbrev pub field : ℕ → List ℕ
field n = ascii " " ++ decimal n

-- there is room for a text at a place of a buffer
pub record Room (buffer : List ℕ) (at : ℕ) (s : List ℕ) : Type 0 where
  pub room : at + length s ≤ length buffer

-- what putting a text at a place of a buffer gives: its bytes there and no other byte changed; the place after it
pub record Puts (s before : List ℕ) (at : ℕ) (after : List ℕ) (end : ℕ) : Type 0 where
  pub bytes : after ≡ paste before at s (length s)
  pub place : end ≡ at + length s
