-- The whole square root (§ Amplitudes 4: the largest whole number whose square is at most n).
use Rattle.std.specs.Prelude.{◌≡◌, Bool, true, false, cond, ℕ, zero, suc, ◌+◌, ◌*◌, ◌-◌, ◌/◌, ◌^◌, ◌≤◌, ◌<◌, min, leb}
use Rattle.std.specs.Int.Count.{count_leading_zeros}
use Rattle.integer.specs.declared.Found.{Found}

-- r is the root of n: its square is at most n, and that of the next number is not
pub record Root (n r : ℕ) : Type 0 where
  pub low : r * r ≤ n
  pub high : n < (r + 1) * (r + 1)

-- r + 1 where its square is at most n, else r
abbrev pub raised : ℕ → ℕ → ℕ
raised n r = cond (leb ((r + 1) * (r + 1)) n) (r + 1) r

-- the root of n, by its binary digits: twice the root of n / 4, or one more. `most` bounds the digits.
unfoldable pub root_by : (most n : ℕ) → ℕ
root_by zero n = 0
root_by (suc most) zero = 0
root_by (suc most) (suc n) = raised (suc n) (2 * root_by most (suc n / 4))

abbrev pub root : ℕ → ℕ
root n = root_by n n

-- ---- how it is found (§ Amplitudes 5)

-- how many binary digits n has, below 2 ^ 64: none for 0
abbrev pub digits : ℕ → ℕ
digits n = 64 - count_leading_zeros 64 n

-- Newton's step from r: half of r + n / r
abbrev pub step : (n r : ℕ) → ℕ
step n r = (r + n / r) / 2

-- no root is above 2 ^ 32 - 1
abbrev pub most : ℕ
most = 4294967295

abbrev pub capped : ℕ → ℕ
capped r = min r most

-- the start: one more than two steps from 2 to the power of half of n's digits
unfoldable pub start : ℕ → ℕ
start n = capped (step n (step n (2 ^ (digits n / 2))) + 1)

-- whether r is no longer above the root
abbrev pub reached : (n r : ℕ) → Bool
reached n r = leb (r * r) n

-- the turns from r: one for each step until the root is reached. A step from above the root lowers r, so that r is a bound that is never met.
unfoldable pub turns_from : (bound : ℕ) (there : Bool) (n r : ℕ) → ℕ
turns_from zero there n r = 0
turns_from (suc bound) true n r = 0
turns_from (suc bound) false n r = 1 + turns_from bound (reached n (step n r)) n (step n r)

abbrev pub turns_at : (n r : ℕ) → ℕ
turns_at n r = turns_from r (reached n r) n r

-- the turns that finding the root of n takes: none at 0
abbrev pub turns : ℕ → ℕ
turns zero = 0
turns (suc n) = turns_at (suc n) (start (suc n))

-- The root and any search for its start take at most as many turns as n has binary digits, none at 0.
pub record FewTurns : Type 0 where
  pub few : (n : ℕ) → n < 2 ^ 64 → turns n ≤ digits n
  pub none : turns 0 ≡ 0

-- what finding the root gives: the definition's number, which is the largest whose square is at most n (§ Amplitudes 4); and how many turns the loop took
pub record FindsRoot (n : ℕ) (f : Found) : Type 0 where
  pub same : f.root ≡ root n
  pub largest : Root n f.root
  pub counted : f.turns ≡ turns n
