-- `map` against the parts of a list.
use mathlib.Core.Path.{◌≡◌, refl, ap}
use mathlib.Core.List.{List, [], ◌∷◌, map}
use Prim.Native.Nat.{ℕ, zero, suc}
use lib.ListN.{take, drop}
use Rattle.lists.specs.Lists.{up_to}

module _ {A B : Type 0} (f : A → B) where
  pub map_take : (n : ℕ) (l : List A) → map f (take n l) ≡ take n (map f l)
  map_take zero l = refl
  map_take (suc n) [] = refl
  map_take (suc n) (a ∷ l) = ap (λ (t : List B). f a ∷ t) (map_take n l)

  pub map_drop : (n : ℕ) (l : List A) → map f (drop n l) ≡ drop n (map f l)
  map_drop zero l = refl
  map_drop (suc n) [] = refl
  map_drop (suc n) (a ∷ l) = map_drop n l

  pub map_up_to : (n : ℕ) (g : ℕ → A) → map f (up_to n g) ≡ up_to n (λ k. f (g k))
  unfolding up_to
  map_up_to zero g = refl
  map_up_to (suc n) g = ap (λ (t : List B). f (g 0) ∷ t) (map_up_to n (λ k. g (suc k)))
