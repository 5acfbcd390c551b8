-- From a test that computes to the fact at each place, and back.
use mathlib.Core.Path.{◌≡◌, refl, sym, ap}
use mathlib.Core.Bool.{Bool, true, false, not, cond, ◌&&◌, and_assoc, and-true, and-false}
use mathlib.Core.List.{List, [], ◌∷◌, ◌++◌, map}
use Prim.Native.Nat.{ℕ, zero, suc, ◌<◌}
use native.Mathlib.Omega.{arith}
use lib.Dec.{T}
use lib.ListN.{get_or, take, drop}
use Rattle.lists.specs.Lists.{up_to}
use Rattle.lists.specs.Tests.{hold, every, each, Each, none, ◌&◌}

-- ---- single tests

pub split : (a b : Bool) → T (a && b) → T a × T b
split true b t = (tt, t)
split false b t = absurd t

pub pair : (a b : Bool) → T a → T b → T (a && b)
pair true b h k = k
pair false b h k = absurd h

pub not-not : (b : Bool) → T (not (not b)) → T b
not-not true h = tt
not-not false h = h

-- a test that is only made where a holds, or where it does not
pub when : (a b : Bool) → T (cond a b true) → a ≡ true → T b
when a b t e = rw e at t

pub unless : (a b : Bool) → T (cond a true b) → a ≡ false → T b
unless a b t e = rw e at t

pub is_true : {b : Bool} → T b → b ≡ true
is_true {b = true} h = refl
is_true {b = false} h = absurd h

pub is_false : {b : Bool} → (T b → ⊥) → b ≡ false
is_false {b = true} h = absurd (h tt)
is_false {b = false} h = refl

-- ---- lists of tests, and tests at every number

pub hold_at : (bs : List Bool) → T (hold bs) → (k : ℕ) → T (get_or bs k true)
hold_at [] h k = tt
hold_at (b ∷ bs) h zero = (split b (hold bs) h).0
hold_at (b ∷ bs) h (suc k) = hold_at bs (split b (hold bs) h).1 k

-- one that fails, at any place
pub hold_not : (bs : List Bool) (k : ℕ) → get_or bs k true ≡ false → false ≡ hold bs
hold_not [] k e = sym e
hold_not (b ∷ bs) zero e = rw e
hold_not (b ∷ bs) (suc k) e = rw (← (hold_not bs k e)) (sym (and-false b))

pub every_at : (n : ℕ) (t : ℕ → Bool) → T (every n t) → (k : ℕ) → k < n → T (t k)
every_at zero t h k l = absurd (omega arith)
every_at (suc n) t h zero l = (split (t zero) (every n (λ k. t (suc k))) h).0
every_at (suc n) t h (suc k) l = every_at n (λ k. t (suc k)) (split (t zero) (every n (λ k. t (suc k))) h).1 k (omega arith)

pub every_of : (n : ℕ) (t : ℕ → Bool) → ((k : ℕ) → k < n → T (t k)) → T (every n t)
every_of zero t h = tt
every_of (suc n) t h = pair (t zero) (every n (λ k. t (suc k))) (h zero (omega arith)) (every_of n (λ k. t (suc k)) (λ k l. h (suc k) (omega arith)))

pub each-++ : {A : Type 0} (t : A → Bool) (l m : List A) → each t (l ++ m) ≡ (each t l && each t m)
each-++ t [] m = refl
each-++ t (a ∷ l) m = rw (each-++ t l m) (sym (and_assoc (t a) (each t l) (each t m)))

pub each_up_to : {A : Type 0} (t : A → Bool) (n : ℕ) (f : ℕ → A) → T (each t (up_to n f)) → (k : ℕ) → k < n → T (t (f k))
unfolding up_to
each_up_to t zero f h k l = absurd (omega arith)
each_up_to t (suc n) f h zero l = (split (t (f zero)) (each t (up_to n (λ i. f (suc i)))) h).0
each_up_to t (suc n) f h (suc k) l = each_up_to t n (λ i. f (suc i)) (split (t (f zero)) (each t (up_to n (λ i. f (suc i)))) h).1 k (omega arith)

pub each_map : {A B : Type 0} (t : B → Bool) (f : A → B) (l : List A) → each t (map f l) ≡ each (λ a. t (f a)) l
each_map t f [] = refl
each_map t f (a ∷ l) = ap (λ (b : Bool). t (f a) && b) (each_map t f l)

-- ---- what holds of each element

pub hold_of : {bs : List Bool} → Each T bs → T (hold bs)
hold_of none = tt
hold_of (◌&◌ {a = b} {l = bs} h k) = pair b (hold bs) h (hold_of k)

-- the last decides, where those before it hold
pub hold_last : (bs : List Bool) → Each T bs → (b : Bool) → b ≡ hold (bs ++ (b ∷ []))
hold_last [] none b = sym (and-true b)
hold_last (a ∷ bs) (h & k) b = rw (is_true {b = a} h) (hold_last bs k b)

module _ {A : Type 0} {P : A → Type 0} where
  pub each_append : {l m : List A} → Each P l → Each P m → Each P (l ++ m)
  each_append none k = k
  each_append (p & h) k = p & each_append h k

  pub each_take : {l : List A} → Each P l → (n : ℕ) → Each P (take n l)
  each_take h zero = none
  each_take none (suc n) = none
  each_take (◌&◌ {l = l} p h) (suc n) = p & each_take {l = l} h n

  pub each_drop : {l : List A} → Each P l → (n : ℕ) → Each P (drop n l)
  each_drop h zero = h
  each_drop none (suc n) = none
  each_drop (◌&◌ {l = l} p h) (suc n) = each_drop {l = l} h n

  pub each_get : {l : List A} → Each P l → {d : A} → P d → (k : ℕ) → P (get_or l k d)
  each_get none e k = e
  each_get (p & h) e zero = p
  each_get (p & h) e (suc k) = each_get h e k

  pub each_test : (f : A → Bool) → ((a : A) → P a → T (f a)) → {l : List A} → Each P l → T (each f l)
  each_test f g none = tt
  each_test f g (◌&◌ {a = a} {l = l} p h) = pair (f a) (each f l) (g a p) (each_test f g h)

  pub test_each : (f : A → Bool) → ((a : A) → T (f a) → P a) → (l : List A) → T (each f l) → Each P l
  test_each f g [] h = none
  test_each f g (a ∷ l) h = g a (split (f a) (each f l) h).0 & test_each f g l (split (f a) (each f l) h).1
