-- Bounds of the sums and of the amplitude, from a bound on the twelve numbers. The constants enter by the sum of their sizes, and `nearest_away` by
-- its half-unit law.
use mathlib.Core.Path.{◌≡◌, refl}
use mathlib.Core.Bool.{Bool}
use Prim.Native.Nat.{ℕ, ◌+◌, ◌*◌, ◌/◌, ◌%◌, ◌≤◌, ◌<◌}
use native.Mathlib.Nat.{mul-le-mul}
use native.Mathlib.Omega.{arith}
use lib.Dec.{T, ltb, ltb→lt}
use lib.IntN.{ℤ, pos, negsuc, ◌*ℤ◌}
use Rattle.integer.specs.Nearest.{nearest_away}
use Rattle.integer.specs.Within.{◌within◌}
use Rattle.integer.proofs.Reading.{ints, ◌⇒◌}
use Rattle.integer.proofs.HalfUnit.{nearest_away_near}
use Rattle.integer.proofs.RootLaws.{root_is, root-≤}
use Rattle.integer.proofs.SumLaws.{weight, weighted}
use Rattle.amplitude.specs.Amplitude.{t, weighted_sum, cycle, square, amplitude}

-- ---- the sums

-- the constant of the number k
abbrev pub constant : (h from k : ℕ) → ℤ
constant h from k = t ((h * k + from) % 12)

-- c or s, of a sum within w
pub quotient_within : (w : ℕ) (x : ℤ) → x within w → nearest_away x 9360 within ((9360 + 2 * w) / 18720)
quotient_within w x small = nearest_away_near x 9360 (omega arith) ⇒ small ⇒ simp ints (omega arith)

-- what c or s of numbers within b is within, by the sum of the constants' sizes
unfoldable pub most : (h from b : ℕ) → ℕ
most h from b = (9360 + 2 * (weight 12 (constant h from) * b)) / 18720

cycle_within : (h from b : ℕ) (u : ℕ → ℤ) → ((k : ℕ) → k < 12 → u k within b) → cycle h from u within most h from b
unfolding weighted_sum cycle most
cycle_within h from b u small = quotient_within (weight 12 (constant h from) * b) _ (weighted (constant h from) u b 12 small)

-- ---- the amplitude

pub square_is : (x : ℤ) → x *ℤ x ≡ pos (square x)
square_is (pos a) = refl
square_is (negsuc a) = refl

pub square-≤ : {x : ℤ} {c : ℕ} → x within c → square x ≤ c * c
square-≤ h = mul-le-mul h.size h.size

-- of numbers within b it is at most d, by one test
abbrev squares : (h b : ℕ) → ℕ
squares h b = most h 0 b * most h 0 b + most h 9 b * most h 9 b

unfoldable pub bounded : (h b d : ℕ) → Bool
bounded h b d = ltb (squares h b) ((d + 1) * (d + 1))

pub amplitude-≤ : (h b d : ℕ) (u : ℕ → ℤ) → T (bounded h b d) → ((k : ℕ) → k < 12 → u k within b) → amplitude h u ≤ d
unfolding bounded amplitude
amplitude-≤ h b d u test small =
    let less = ltb→lt (squares h b) ((d + 1) * (d + 1)) test in
    root-≤ d (root_is _) (omega (arith, square-≤ (cycle_within h 0 b u small), square-≤ (cycle_within h 9 b u small)))
