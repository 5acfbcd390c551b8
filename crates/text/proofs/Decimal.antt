-- A number's decimal digits: `places` has the fewest that hold it, only one number of digits is the fewest, and a number below 10 ^ m has at most m.
use mathlib.Core.Path.{◌≡◌, refl, ap, ◌∙◌}
use mathlib.Core.Bool.{Bool, true, false, cond}
use mathlib.Core.List.{List}
use Prim.Native.Nat.{ℕ, zero, suc, ◌+◌, ◌-◌, ◌*◌, ◌/◌, ◌^◌, ◌≤◌, ◌<◌}
use native.Mathlib.Nat.{pow-suc, pow-le-pow_right}
use native.Mathlib.Numerals.{add-one}
use native.Mathlib.Omega.{arith}
use borrow.Author.Tests.{ltb-true, ltb-false}
use lib.Dec.{ltb}
use lib.ListN.{length, length-append}
use Rattle.lists.specs.Lists.{up_to}
use Rattle.io.specs.Digits.{last_digits, IsDigitCount}
use Rattle.text.specs.Text.{ascii, places_by, places, FewestPlaces, decimal, field}

-- one digit more
power : (k : ℕ) → 10 ^ (k + 1) ≡ 10 ^ k * 10
power k = ap (λ (j : ℕ). 10 ^ j) (add-one k) ∙ pow-suc 10 k

-- the fewest digits of n from those of its tenth
one_more : (n k : ℕ) → 10 ≤ n → IsDigitCount 10 1 (n / 10) k → IsDigitCount 10 1 n (k + 1)
one_more n zero h f = absurd (omega (arith, f.0))
one_more n (suc zero) h f = (omega arith, omega (arith, f.1), λ l. omega arith)
one_more n (suc (suc j)) h f =
    let less : suc (suc j) - 1 ≡ suc j = omega arith in
    let same : suc (suc j) + 1 - 1 ≡ suc (suc j) = omega arith in
    let low : 10 ^ suc j ≤ n / 10 = rw less at (f.2 (omega arith)) in
    (omega arith, rw (power (suc (suc j))) (omega (arith, f.1)), λ l. rw (same, pow-suc 10 (suc j)) (omega arith))

fewest_by : (most n : ℕ) → n ≤ most → IsDigitCount 10 1 n (places_by most n)
unfolding places_by
fewest_by zero n l = (omega arith, omega arith, λ k. absurd (omega arith))
fewest_by (suc most) n l = by (ltb n 10) refl (fewest_by most (n / 10))
  where
    by : (b : Bool) → ltb n 10 ≡ b → (n / 10 ≤ most → IsDigitCount 10 1 (n / 10) (places_by most (n / 10))) → IsDigitCount 10 1 n (cond b 1 (places_by most (n / 10) + 1))
    by true e rest = (omega arith, omega (arith, ltb-true n 10 e), λ k. absurd (omega arith))
    by false e rest = let h = ltb-false n 10 e in one_more n (places_by most (n / 10)) h (rest (omega arith))

pub fewest_places : FewestPlaces
unfolding FewestPlaces
fewest_places n = fewest_by n n (omega arith)

-- where m digits hold n, the fewest are no more
at_most : {n k : ℕ} (m : ℕ) → IsDigitCount 10 1 n k → 1 ≤ m → n < 10 ^ m → k ≤ m
at_most {n} {k} m f one h = by (ltb m k) refl
  where
    by : (b : Bool) → ltb m k ≡ b → k ≤ m
    by true e =
        let over = ltb-true m k e in
        let low : 10 ^ (k - 1) ≤ n = f.2 (omega arith) in
        let more : 10 ^ m ≤ 10 ^ (k - 1) = pow-le-pow_right {n = 10} (omega arith) (omega arith) in
        absurd (omega arith)
    by false e = ltb-false m k e

places_only : {n k : ℕ} → IsDigitCount 10 1 n k → k ≡ places n
unfolding FewestPlaces
places_only {n} {k} f =
    let g = fewest_places n in
    omega (arith, at_most (places n) f g.0 g.1, at_most k g f.0 f.1)

-- the fewest digits of a number are its text
pub decimal_is : {n k : ℕ} {s : List ℕ} → IsDigitCount 10 1 n k → s ≡ last_digits 10 k n → s ≡ decimal n
unfolding decimal
decimal_is {n} f e = e ∙ ap (λ (j : ℕ). last_digits 10 j n) (places_only f)

digits_length : (b k n : ℕ) → length (last_digits b k n) ≡ k
digits_length b zero n = refl
digits_length b (suc k) n = length-append (last_digits b k (n / b)) _ ∙ omega (arith, digits_length b k (n / b))

-- the text of a number below 10 ^ m, and of a field with it
pub decimal_short : (n m : ℕ) → 1 ≤ m → n < 10 ^ m → length (decimal n) ≤ m
unfolding decimal FewestPlaces
decimal_short n m one h = rw (digits_length 10 (places n) n) (at_most m (fewest_places n) one h)

pub field_short : (n m : ℕ) → 1 ≤ m → n < 10 ^ m → length (field n) ≤ m + 1
unfolding ascii up_to
field_short n m one h = omega (arith, decimal_short n m one h)
