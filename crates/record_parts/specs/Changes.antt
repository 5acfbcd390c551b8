-- What a change block holds: the part of the record in byte 1, which one of several in byte 2, and the new value from byte 4 on.
use Rattle.std.specs.Prelude.{Bool, not, cond, List, [], ◌∷◌, ℕ, eqb, ℤ, get_or}
use Rattle.std.specs.Int.{w16, w32, cast_signed, from_le_bytes}
use Rattle.record_parts.specs.declared.changed.Part.{Part}
use Rattle.record_parts.specs.declared.changed.Part.TheVariants.{Setting, Fill, Number, Counter, Events, Sum, Trip}
use Rattle.record_parts.specs.declared.changed.Value.{Value}
use Rattle.record_parts.specs.declared.changed.Change.{Change}

-- ---- the new value of a part, by its bytes

-- its first byte, and whether that is not 0
abbrev pub byte : Value → ℕ
byte x = get_or x.0 0 0

abbrev pub set : Value → Bool
set x = not (eqb (byte x) 0)

-- the number of its first two bytes and of all four, little-endian, and the signed number whose 32 bits they are
abbrev pub half : Value → ℕ
half x = from_le_bytes w16 x.0

abbrev pub word : Value → ℕ
word x = from_le_bytes w32 x.0

abbrev pub signed : Value → ℤ
signed x = cast_signed w32 (word x)

-- ---- a change block

-- the part, and which one of several
abbrev pub part_of : (part which : ℕ) → Part
part_of part which = cond (eqb part 0) (Setting which) (cond (eqb part 1) Fill (cond (eqb part 2) (Number which) (cond (eqb part 3) (Counter which)
    (cond (eqb part 4) (Events which) (cond (eqb part 5) (Sum which) (Trip which))))))

abbrev pub change_of : List ℕ → Change
change_of block = record {
  part = part_of (get_or block 1 0) (get_or block 2 0);
  value = record { 0 = get_or block 4 0 ∷ get_or block 5 0 ∷ get_or block 6 0 ∷ get_or block 7 0 ∷ [] };
}
