-- The sums of a cycle in parts, as the code works them out. Each constant is 780·a + 1351·b with a and b from -2 to 2, so that sums with those
-- small numbers are taken first: six parts for the three harmonics.
use Rattle.std.specs.Prelude.{◌≡◌, List, [], ◌∷◌, ℕ, ◌+◌, ◌*◌, ◌≤◌, ℤ, pos, negsuc, ◌+ℤ◌, ◌*ℤ◌, get_or}
use Rattle.integer.specs.Nearest.{nearest_away}
use Rattle.integer.specs.Root.{root}
use Rattle.integer.specs.Sum.{sum}
use Rattle.integer.specs.Within.{◌within◌}
use Rattle.amplitude.specs.Amplitude.{square}

-- the share of each of the twelve numbers in each part: of h = 1, c in 780 and in 1351, s in 780 and in 1351; of h = 2, c in 780, s in 1351
abbrev pub shares : List (List ℤ)
shares =
    (pos 2 ∷ pos 0 ∷ pos 1 ∷ pos 0 ∷ negsuc 0 ∷ pos 0 ∷ negsuc 1 ∷ pos 0 ∷ negsuc 0 ∷ pos 0 ∷ pos 1 ∷ pos 0 ∷ [])
    ∷ (pos 0 ∷ pos 1 ∷ pos 0 ∷ pos 0 ∷ pos 0 ∷ negsuc 0 ∷ pos 0 ∷ negsuc 0 ∷ pos 0 ∷ pos 0 ∷ pos 0 ∷ pos 1 ∷ [])
    ∷ (pos 0 ∷ pos 1 ∷ pos 0 ∷ pos 2 ∷ pos 0 ∷ pos 1 ∷ pos 0 ∷ negsuc 0 ∷ pos 0 ∷ negsuc 1 ∷ pos 0 ∷ negsuc 0 ∷ [])
    ∷ (pos 0 ∷ pos 0 ∷ pos 1 ∷ pos 0 ∷ pos 1 ∷ pos 0 ∷ pos 0 ∷ pos 0 ∷ negsuc 0 ∷ pos 0 ∷ negsuc 0 ∷ pos 0 ∷ [])
    ∷ (pos 2 ∷ pos 1 ∷ negsuc 0 ∷ negsuc 1 ∷ negsuc 0 ∷ pos 1 ∷ pos 2 ∷ pos 1 ∷ negsuc 0 ∷ negsuc 1 ∷ negsuc 0 ∷ pos 1 ∷ [])
    ∷ (pos 0 ∷ pos 1 ∷ pos 1 ∷ pos 0 ∷ negsuc 0 ∷ negsuc 0 ∷ pos 0 ∷ pos 1 ∷ pos 1 ∷ pos 0 ∷ negsuc 0 ∷ negsuc 0 ∷ [])
    ∷ []

unfoldable pub share : (p k : ℕ) → ℤ
share p k = get_or (get_or shares p []) k (pos 0)

-- part p of the numbers u
unfoldable pub part : (p : ℕ) → (ℕ → ℤ) → ℤ
part p u = sum 12 (λ k. share p k *ℤ u k)

-- a sum with the constants, from its parts in 780 and in 1351
abbrev pub joined : (a b : ℤ) → ℤ
joined a b = pos 780 *ℤ a +ℤ pos 1351 *ℤ b

-- the amplitude, from the sums of c and s
unfoldable pub of_sums : (c s : ℤ) → ℕ
of_sums c s = root (square (nearest_away c 9360) + square (nearest_away s 9360))

-- ---- what the code takes and gives: parts within 2 ^ 26, past those of a window that a record may hold, over four ends

pub record PairInput (a b : ℤ) : Type 0 where
  pub low : a within 67108864
  pub high : b within 67108864

pub record PartsInput (c c3 s s3 : ℤ) : Type 0 where
  pub across : PairInput c c3
  pub up : PairInput s s3

pub record SumInput (x : ℤ) : Type 0 where
  pub small : x within 143008989184

pub record JoinOf (a b r : ℤ) : Type 0 where
  pub is : r ≡ joined a b
  pub small : r within 143008989184

pub record SquareOf (x : ℤ) (r : ℕ) : Type 0 where
  pub is : r ≡ square (nearest_away x 9360)
  pub small : r ≤ 16000000 * 16000000

pub record OfParts (c c3 s s3 : ℤ) (r : ℕ) : Type 0 where
  pub is : r ≡ of_sums (joined c c3) (joined s s3)
  pub small : r ≤ 32000000
