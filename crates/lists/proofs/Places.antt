-- A list by its places: its start as `up_to`, an element of `up_to`, the rest from a place on, and a part of a list that was lent and is back.
use mathlib.Core.Path.{◌≡◌, refl, sym, ap, ◌∙◌}
use mathlib.Core.List.{List, [], ◌∷◌, ◌++◌, append_assoc, append-nil, flatten}
use Prim.Native.Nat.{ℕ, zero, suc, ◌+◌, ◌*◌, ◌-◌, ◌<◌, ◌≤◌}
use native.Mathlib.Nat.{zero-add, suc-add, mul-suc}
use native.Mathlib.Numerals.{add-one}
use native.Mathlib.Omega.{arith}
use lib.ListN.{length, get_or, take, drop, length-drop, drop_of_length-le, get_or-append}
use lib.Seq.{drop-cons, take_all, get_or-append-add}
use borrow.Rule.Slice.PartMut.{put_mid}
use Rattle.lists.specs.Lists.{up_to}
use Rattle.lists.specs.Tests.{Each, none, ◌&◌}

module _ {ℓ} {A : Type ℓ} where
  pub length_up_to : (n : ℕ) (f : ℕ → A) → length (up_to n f) ≡ n
  unfolding up_to
  length_up_to zero f = refl
  length_up_to (suc n) f = ap suc (length_up_to n (λ k. f (suc k)))

  pub get_or_up_to : (n : ℕ) (f : ℕ → A) (k : ℕ) (d : A) → k < n → get_or (up_to n f) k d ≡ f k
  unfolding up_to
  get_or_up_to zero f k d h = absurd (omega arith)
  get_or_up_to (suc n) f zero d h = refl
  get_or_up_to (suc n) f (suc k) d h = get_or_up_to n (λ j. f (suc j)) k d (omega arith)

  -- the first n elements, by their places
  pub take_up_to : (n : ℕ) (s : List A) (d : A) → n ≤ length s → take n s ≡ up_to n (λ k. get_or s k d)
  unfolding up_to
  take_up_to zero s d h = refl
  take_up_to (suc n) [] d h = absurd (omega arith)
  take_up_to (suc n) (x ∷ s) d h = ap (λ (l : List A). x ∷ l) (take_up_to n s d (omega arith))

  -- the first n, and then m more
  pub up_to_add : (n m : ℕ) (f : ℕ → A) → up_to (n + m) f ≡ up_to n f ++ up_to m (λ k. f (n + k))
  unfolding up_to
  up_to_add zero m f = simp zero-add
  up_to_add (suc n) m f = simp suc-add (ap (λ (t : List A). f 0 ∷ t) (up_to_add n m (λ k. f (suc k))))

  -- lists of equal elements
  pub up_to_same : (n : ℕ) (f g : ℕ → A) → ((k : ℕ) → k < n → f k ≡ g k) → up_to n f ≡ up_to n g
  unfolding up_to
  up_to_same zero f g h = refl
  up_to_same (suc n) f g h = rw (h 0 (omega arith), up_to_same n (λ k. f (suc k)) (λ k. g (suc k)) (λ k l. h (suc k) (omega arith)))

  -- the rest from i on is its first element and the rest from i + 1 on
  pub drop_next : (s : List A) (i : ℕ) (d : A) → i < length s → drop i s ≡ get_or s i d ∷ drop (i + 1) s
  drop_next s i d h = drop-cons s i d h ∙ rw add-one

-- lists one after the other, and one more
pub flat_snoc : {A : Type 0} (ls : List (List A)) (l : List A) → flatten (ls ++ (l ∷ [])) ≡ flatten ls ++ l
unfolding flatten
flat_snoc [] l = append-nil l
flat_snoc {A} (k ∷ ls) l = ap (λ (t : List A). k ++ t) (flat_snoc ls l) ∙ sym (append_assoc k (flatten ls) l)

-- element j of list k, where all have n
pub flat_at : {A : Type 0} {n : ℕ} {ls : List (List A)} → Each (λ l. length l ≡ n) ls → (rest : List A) (k j : ℕ) (d : A) → k < length ls → j < n →
    get_or (flatten ls ++ rest) (n * k + j) d ≡ get_or (get_or ls k []) j d
unfolding flatten
flat_at none rest k j d h i = absurd (omega arith)
flat_at {n = n} (◌&◌ {a = l} {l = ls} e hs) rest zero j d h i =
    let at : n * 0 + j ≡ j = omega arith in
    rw (at, append_assoc l (flatten ls) rest) (get_or-append l (flatten ls ++ rest) d j (omega arith))
flat_at {n = n} (◌&◌ {a = l} {l = ls} e hs) rest (suc k) j d h i =
    let at : n * suc k + j ≡ length l + (n * k + j) = rw mul-suc (omega arith) in
    rw (at, append_assoc l (flatten ls) rest) (get_or-append-add l (flatten ls ++ rest) (n * k + j) d) ∙ flat_at hs rest k j d (omega arith) i

-- what holds of each element
pub up_to_each : {A : Type 0} {P : A → Type 0} (n : ℕ) (f : ℕ → A) → ((k : ℕ) → k < n → P (f k)) → Each P (up_to n f)
unfolding up_to
up_to_each zero f h = none
up_to_each (suc n) f h = h 0 (omega arith) & up_to_each n (λ k. f (suc k)) (λ k l. h (suc k) (omega arith))

-- a part from `at` to the end, lent by `&mut` and back: the whole is what stood before it, and then the part
module _ {A : Type 0} (s : List A) (at : ℕ) where
  short : length (drop at s) ≤ length s - at
  short = omega (arith, length-drop at s)

  -- the part that the callee is lent
  pub lent : take (length s - at) (drop at s) ≡ drop at s
  lent = take_all (length s - at) (drop at s) short

  -- the whole, once the callee has left ys in it
  pub back : (ys : List A) → put_mid at (length s - at) s ys ≡ take at s ++ ys
  back ys = ap (λ (z : List A). take at s ++ (ys ++ z)) (drop_of_length-le (drop at s) short) ∙ ap (λ (z : List A). take at s ++ z) (append-nil ys)
