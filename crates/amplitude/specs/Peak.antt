-- The limits of D for a healthy bank (§ The three demands 3): 45, 69 or 91 thousandths of reference current for E 2, 3 or 4.
use Rattle.std.specs.Prelude.{[], ◌∷◌, ℕ, ◌*◌, ◌≤◌, ◌<◌, ℤ, get_or}
use Rattle.integer.specs.Within.{◌within◌}
use Rattle.amplitude.specs.Amplitude.{amplitude}

abbrev pub peak : (ends : ℕ) → ℕ
peak E = get_or (0 ∷ 0 ∷ 45 ∷ 69 ∷ 91 ∷ []) E 0

-- where each of the twelve sums over the ends is within 13·E, D is at most the limit
unfoldable pub PeakBound : Type 0
PeakBound = (E : ℕ) → 2 ≤ E → E ≤ 4 → (u : ℕ → ℤ) → ((k : ℕ) → k < 12 → u k within (13 * E)) → amplitude 1 u ≤ peak E
