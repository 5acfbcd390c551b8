-- Sets in a row (§ Characteristic and trip 5 and 6): the counter and the latch of a system by all the sets since the last reset. Of each set only
-- whether the system counts at it is looked at; the newest stands first.
use Rattle.std.specs.Prelude.{◌≡◌, ◌↔◌, Bool, true, cond, ℕ, ◌+◌, ◌≤◌, min, replicate}
use mathlib.Core.List.{List, [], ◌∷◌, ◌++◌, foldr}
use Rattle.state.specs.declared.Element.{Element}
use Rattle.state.specs.State.{element_after, clear}

-- the counter and the latch after these sets
abbrev pub after_sets : (M : ℕ) → List Bool → Element
after_sets M bs = foldr (element_after M) clear bs

-- M sets in a row counted, at some time
pub record InARow (M : ℕ) (bs : List Bool) : Type 0 where
  pub newer : List Bool
  pub older : List Bool
  pub is : bs ≡ newer ++ (replicate M true ++ older)

-- how many in a row counted up to now
abbrev pub row_now : List Bool → ℕ
row_now [] = 0
row_now (counts ∷ bs) = cond counts (row_now bs + 1) 0

-- The trip is latched exactly when M sets in a row counted, however long ago. (M is 1 to 24.)
unfoldable pub LatchedInARow : Type 0
LatchedInARow = (M : ℕ) → 1 ≤ M → (bs : List Bool) → ((after_sets M bs).latch ≡ true) ↔ InARow M bs

-- The counter is the number of sets in a row that counted up to now, at most M.
unfoldable pub CountedInARow : Type 0
CountedInARow = (M : ℕ) (bs : List Bool) → (after_sets M bs).count ≡ min M (row_now bs)
