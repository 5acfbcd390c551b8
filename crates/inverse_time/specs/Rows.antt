-- Measured sets in a row (§ Backup overcurrent): the sum and the trip of an end by all the measured sets since the last reset. Of each only its j is
-- looked at; the newest stands first.
use Rattle.std.specs.Prelude.{◌≡◌, ◌↔◌, true, cond, ℕ, ◌+◌, ◌≤◌, min, ltb}
use mathlib.Core.List.{List, [], ◌∷◌, ◌++◌, foldr}
use Rattle.inverse_time.specs.declared.Timer.{Timer}
use Rattle.inverse_time.specs.declared.curves.Curve.{Curve}
use Rattle.inverse_time.specs.Timers.{most_sum, growth, timer_after, idle}

-- the sum and the trip after these sets
abbrev pub after_sets : Curve → List ℕ → Timer
after_sets c js = foldr (timer_after c) idle js

-- what the sets up to now grow by, all together, since the last one below 11
abbrev pub grown : Curve → List ℕ → ℕ
grown c [] = 0
grown c (j ∷ js) = cond (ltb j 11) 0 (growth c j + grown c js)

-- at some set that was 1,000,000,000 or more
pub record Reached (c : Curve) (js : List ℕ) : Type 0 where
  pub newer : List ℕ
  pub older : List ℕ
  pub is : js ≡ newer ++ older
  pub enough : most_sum ≤ grown c older

-- The sum is what the sets in a row grow by, at most 1,000,000,000.
unfoldable pub SummedInARow : Type 0
SummedInARow = (c : Curve) (js : List ℕ) → (after_sets c js).sum ≡ min most_sum (grown c js)

-- The element is tripped exactly when that was reached, however long ago.
unfoldable pub TrippedInARow : Type 0
TrippedInARow = (c : Curve) (js : List ℕ) → ((after_sets c js).trip ≡ true) ↔ Reached c js
