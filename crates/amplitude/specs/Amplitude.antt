-- Amplitudes (§ Amplitudes): one-cycle sums over a window of 12 numbers, oldest k = 0. They stand in the place of the double
-- smoothing of source 001, 2.3.5.
use Rattle.std.specs.Prelude.{List, [], ◌∷◌, ℕ, ◌+◌, ◌*◌, ◌%◌, ℤ, pos, nat_abs, ◌*ℤ◌, get_or}
use Rattle.integer.specs.Nearest.{nearest_away}
use Rattle.integer.specs.Root.{root}
use Rattle.integer.specs.Sum.{sum}
use Rattle.integer.specs.Within.{neg}

-- the harmonics that are measured: h = 1, 2, 5
pub data Harmonic : Type 0 where
  first : Harmonic
  second : Harmonic
  fifth : Harmonic

abbrev pub order : Harmonic → ℕ
order first = 1
order second = 2
order fifth = 5

-- the constants t0 to t11 (§ Amplitudes 2)
abbrev pub constants : List ℤ
constants = pos 1560 ∷ pos 1351 ∷ pos 780 ∷ pos 0 ∷ neg 780 ∷ neg 1351 ∷ neg 1560 ∷ neg 1351 ∷ neg 780 ∷ pos 0 ∷ pos 780 ∷ pos 1351 ∷ []

unfoldable pub t : ℕ → ℤ
t k = get_or constants k (pos 0)

-- the sum of t[(hk + from) mod 12]·u[k]
unfoldable pub weighted_sum : (h from : ℕ) → (ℕ → ℤ) → ℤ
weighted_sum h from u = sum 12 (λ k. t ((h * k + from) % 12) *ℤ u k)

-- c for harmonic h of the numbers u: that sum from t[0], divided by 9,360, to the nearest, a half away from zero; s the same from t[9]
-- (§ Amplitudes 3)
unfoldable pub cycle : (h from : ℕ) → (ℕ → ℤ) → ℤ
cycle h from u = nearest_away (weighted_sum h from u) 9360

abbrev pub square : ℤ → ℕ
square x = nat_abs x * nat_abs x

-- the amplitude: the largest whole number whose square is at most c² + s² (§ Amplitudes 4)
unfoldable pub amplitude : (h : ℕ) → (ℕ → ℤ) → ℕ
amplitude h u = root (square (cycle h 0 u) + square (cycle h 9 u))
