-- The offset with refusal 5 is the lowest of a field outside its rule (§ What the relay declines, card 3), whatever the order in which the fields are
-- listed: what is said of it here speaks of the fields that are there, and of no order.
use Rattle.std.specs.Prelude.{◌≡◌, true, false, ℕ, ◌≤◌, None, Some}
use mathlib.Core.List.{List, Memᴰ}
use Rattle.setting.specs.declared.Field.{Field}
use Rattle.setting.specs.Values.{offset_of, right, all_right, lowest}

-- x is the offset of a field outside its rule
pub record Wrong (fs : List Field) (x : ℕ) : Type 0 where
  pub field : Field
  pub of : Memᴰ field fs
  pub offset : offset_of field ≡ x
  pub wrong : right field ≡ false

-- and no field outside its rule has a lower one
pub record Least (fs : List Field) (x : ℕ) : Type 0 where
  pub one : Wrong fs x
  pub least : (y : ℕ) → Wrong fs y → x ≤ y

-- an offset is given exactly where it is that one, and none exactly where each field is within its rule
unfoldable pub LowestGiven : Type 0
LowestGiven =
    (fs : List Field) →
    ((x : ℕ) → (lowest fs ≡ Some x → Least fs x) × (Least fs x → lowest fs ≡ Some x))
    × (lowest fs ≡ None → all_right fs ≡ true)
    × (all_right fs ≡ true → lowest fs ≡ None)
