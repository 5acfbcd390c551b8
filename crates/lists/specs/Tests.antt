-- Tests that compute: of a list of facts, of every number below a bound, of every element of a list.
use Rattle.std.specs.Prelude.{Bool, true, ◌&&◌, List, [], ◌∷◌, ℕ, zero, suc}
use Rattle.std.specs.List.{list_all}

-- each of the tests
abbrev pub hold : List Bool → Bool
hold [] = true
hold (b ∷ bs) = b && hold bs

-- the test at 0, 1, .. , n - 1
abbrev pub every : ℕ → (ℕ → Bool) → Bool
every zero t = true
every (suc n) t = t zero && every n (λ k. t (suc k))

-- the test of each element, which an iterator's `all` gives
abbrev pub each : {A : Type 0} → (A → Bool) → List A → Bool
each t l = list_all t l

-- S holds of each element
infixr 5 ◌&◌
pub data Each {A : Type 0} (S : A → Type 0) : List A → Type 0 where
  none : Each S []
  ◌&◌ : {a : A} {l : List A} → S a → Each S l → Each S (a ∷ l)
