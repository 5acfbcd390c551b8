-- Rounding. K is to the nearest with a half up (§ Matching 2); matched numbers, c and s have a half away from zero (§ Matching 7, § Amplitudes 3).
use Rattle.std.specs.Prelude.{ℕ, suc, ◌*◌, ◌/◌, ◌^◌, ◌<◌, ◌≤◌, ℤ, pos, negsuc, neg_ℤ, ◌+ℤ◌, ◌*ℤ◌, ◌-ℤ◌}
use Rattle.integer.specs.Within.{◌within◌}

-- a / b, rounded down
unfoldable pub floor : ℤ → ℕ → ℤ
floor (pos a) b = pos (a / b)
floor (negsuc a) b = negsuc (a / b)

-- a / b to the nearest whole number: a half goes up
unfoldable pub nearest : ℤ → ℕ → ℤ
nearest a b = floor (pos 2 *ℤ a +ℤ pos b) (2 * b)

-- a / b to the nearest whole number: a half goes away from zero. The size is rounded with a half up, and keeps the sign of a.
unfoldable pub nearest_away : ℤ → ℕ → ℤ
nearest_away (pos a) b = nearest (pos a) b
nearest_away (negsuc a) b = neg_ℤ (nearest (pos (suc a)) b)

-- x lies within 1/2 of a / b
abbrev pub Near : (x a : ℤ) (b : ℕ) → Type 0
Near x a b = (pos 2 *ℤ (pos b *ℤ x -ℤ a)) within b

-- what the code of either takes
pub record Divides (a : ℤ) (b : ℕ) : Type 0 where
  pub top : a within 2 ^ 60
  pub some : 0 < b
  pub few : b ≤ 2 ^ 40
