-- Laws of bytes: a number written and read, and read and written; runs of zeros; lists of bytes; the check.
use mathlib.Core.Path.{◌≡◌, refl, sym, ap, ◌∙◌}
use mathlib.Core.Bool.{Bool, true, false, not, cond}
use mathlib.Core.List.{List, [], ◌∷◌, ◌++◌}
use Prim.Native.Nat.{ℕ, zero, suc, ◌+◌, ◌*◌, ◌-◌, ◌/◌, ◌%◌, ◌<◌, ◌≤◌}
use native.Mathlib.Nat.{add_assoc, div-div-eq-div-mul, mod-eq_of_lt, add-mul-mod_self_left}
use native.Mathlib.Omega.{arith}
use borrow.Author.Tests.{lt-ltb, le-ltb, eq-eqb}
use lib.Dec.{T, ltb, eqb, ltb→lt, nltb→le, eqb→eq}
use lib.IntN.{ℤ, pos, negsuc, ◌-ℤ◌}
use lib.ListN.{length, get_or, take, drop, replicate, take-append-drop, drop_of_length-le}
use lib.Seq.{get_or-drop, get_or_at, get_or-append-add, take_at}
use mir.Syntax.{w16}
use mir.Val.{SFits}
use Rattle.lists.specs.Tests.{Each}
use Rattle.integer.proofs.Reading.{ints}
use Rattle.lists.proofs.TestLaws.{split, each_get, test_each}
use Rattle.block.specs.Bytes.{u16_at, u32_at, signed, i16_at, bytes16, bytes32, bits, zeros, are_bytes}
use Rattle.block.specs.Block.{sums_of, checked, sealed}
use Rattle.lists.proofs.Places.{drop_next}

-- ---- a number is read in a part as it is in the whole

module _ (s : List ℕ) (n at : ℕ) where
  pub u16_drop : u16_at (drop n s) at ≡ u16_at s (n + at)
  u16_drop = rw (get_or-drop n s at 0, get_or-drop n s (at + 1) 0, add_assoc n at 1)

-- ---- written and read

module _ (x : ℕ) (rest : List ℕ) where
  pub u16_bytes : x < 65536 → u16_at (bytes16 x ++ rest) 0 ≡ x
  u16_bytes h = omega arith

  pub u32_bytes : x < 4294967296 → u32_at (bytes32 x ++ rest) 0 ≡ x
  u32_bytes h =
      let last : x / 16777216 < 256 = omega arith in
      omega (arith, div-div-eq-div-mul x 256 256, div-div-eq-div-mul x 65536 256, mod-eq_of_lt last)

pub bits_small : (x : ℤ) → SFits w16 x → bits x < 65536
bits_small (pos n) h = omega (arith, h.sfits)
bits_small (negsuc n) h = omega arith

pub signed_bits : (x : ℤ) → SFits w16 x → signed (bits x) ≡ x
signed_bits (pos n) h = rw (lt-ltb n 32768 h.sfits)
signed_bits (negsuc n) h =
    let k : 32768 ≤ 65535 - n = omega (arith, h.sfits) in
    rw (le-ltb (65535 - n) 32768 k) (simp ints (omega (arith, h.sfits)))

pub i16_bytes : (x : ℤ) (rest : List ℕ) → SFits w16 x → i16_at (bytes16 (bits x) ++ rest) 0 ≡ x
i16_bytes x rest h = ap signed (u16_bytes (bits x) rest (bits_small x h)) ∙ signed_bits x h

-- ---- read and written

pub bits_signed : (n : ℕ) → n < 65536 → bits (signed n) ≡ n
bits_signed n h = by (ltb n 32768) (ltb→lt n 32768) (nltb→le n 32768)
  where
    by : (b : Bool) → (T b → n < 32768) → (T (not b) → 32768 ≤ n) → bits (cond b (pos n) (pos n -ℤ pos 65536)) ≡ n
    by true y f = refl
    by false y f =
        let k = f tt in
        let e : pos n -ℤ pos 65536 ≡ negsuc (65535 - n) = simp ints (omega arith) in
        rw e (omega arith)

-- the lowest byte of a number
lowest : (n a m : ℕ) → n ≡ a + 256 * m → a < 256 → n % 256 ≡ a
lowest n a m e h = rw e (add-mul-mod_self_left a 256 m ∙ mod-eq_of_lt h)

module _ {a b : ℕ} (h : a < 256) (k : b < 256) where
  of_two : bytes16 (a + 256 * b) ≡ a ∷ b ∷ []
  of_two = let n = a + 256 * b in rw (lowest n a b refl h, lowest (n / 256) b 0 (omega arith) k)

  of_four : {c d : ℕ} → c < 256 → d < 256 → bytes32 (a + 256 * b + 65536 * c + 16777216 * d) ≡ a ∷ b ∷ c ∷ d ∷ []
  of_four {c} {d} i j =
      let n = a + 256 * b + 65536 * c + 16777216 * d in
      rw (
        lowest n a (b + 256 * c + 65536 * d) (omega arith) h,
        lowest (n / 256) b (c + 256 * d) (omega arith) k,
        lowest (n / 65536) c d (omega arith) i,
        lowest (n / 16777216) d 0 (omega arith) j,
      )

module _ (s : List ℕ) (at : ℕ) (h₀ : get_or s at 0 < 256) (h₁ : get_or s (at + 1) 0 < 256) where
  pub bytes_u16 : bytes16 (u16_at s at) ≡ get_or s at 0 ∷ get_or s (at + 1) 0 ∷ []
  bytes_u16 = of_two h₀ h₁

  pub bytes_i16 : bytes16 (bits (i16_at s at)) ≡ get_or s at 0 ∷ get_or s (at + 1) 0 ∷ []
  bytes_i16 = ap bytes16 (bits_signed (u16_at s at) (omega arith)) ∙ bytes_u16

  pub bytes_u32 : get_or s (at + 2) 0 < 256 → get_or s (at + 3) 0 < 256
      → bytes32 (u32_at s at) ≡ get_or s at 0 ∷ get_or s (at + 1) 0 ∷ get_or s (at + 2) 0 ∷ get_or s (at + 3) 0 ∷ []
  bytes_u32 h₂ h₃ = of_four h₀ h₁ h₂ h₃

-- ---- runs of zeros

pub zeros_is : (s : List ℕ) → T (zeros s) → s ≡ replicate (length s) 0
unfolding zeros
zeros_is [] h = refl
zeros_is (x ∷ s) h = let k = split (eqb x 0) (zeros s) h in rw (eqb→eq x 0 k.0) (ap (λ (l : List ℕ). 0 ∷ l) (zeros_is s k.1))

pub zeros_replicate : (n : ℕ) → zeros (replicate n 0) ≡ true
unfolding zeros
zeros_replicate zero = refl
zeros_replicate (suc n) = zeros_replicate n

-- ---- lists of bytes: each element is below 256

module _ (s : List ℕ) where
  each_byte : T (are_bytes s) → Each (λ x. x < 256) s
  each_byte = test_each (λ x. ltb x 256) (λ x. ltb→lt x 256) s

  pub byte_at : T (are_bytes s) → (k : ℕ) → get_or s k 0 < 256
  byte_at h k = each_get (each_byte h) {d = 0} (omega arith) k

-- ---- the check

-- what stands from n on in a list of n + 2
last_two : (s : List ℕ) (n : ℕ) → length s ≡ n + 2 → drop n s ≡ get_or s n 0 ∷ get_or s (n + 1) 0 ∷ []
last_two s n l = rw (drop_next s n 0 (omega arith), drop_next s (n + 1) 0 (omega arith), drop_of_length-le s {i = n + 1 + 1} (omega arith))

-- a list whose check is right is its first 510 bytes with their check
pub checked_is : (s : List ℕ) → length s ≡ 512 → T (checked s) → s ≡ sealed (take 510 s)
checked_is s l h =
    let k = split (eqb (get_or s 510 0) (sums_of (take 510 s)).a) (eqb (get_or s 511 0) (sums_of (take 510 s)).b) h in
    sym (take-append-drop 510 s) ∙ rw (last_two s 510 l, eqb→eq (get_or s 510 0) _ k.0, eqb→eq (get_or s 511 0) _ k.1)

-- and the check that is put in is right
pub sealed_checked : (body : List ℕ) → length body ≡ 510 → checked (sealed body) ≡ true
sealed_checked body l =
    let a = (sums_of body).a in
    let b = (sums_of body).b in
    let e₀ : get_or (sealed body) 510 0 ≡ a = get_or_at body a (b ∷ []) 0 510 l in
    let e₁ : get_or (sealed body) 511 0 ≡ b = rw l at (get_or-append-add body (a ∷ b ∷ []) 1 0) in
    let front : take 510 (sealed body) ≡ body = take_at body (a ∷ b ∷ []) 510 l in
    rw (front, e₀, e₁, eq-eqb a a refl, eq-eqb b b refl)
