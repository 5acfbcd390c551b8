-- One turn of a loop over a list that tests each element (`each`).
use mathlib.Core.Path.{◌≡◌, sym, ap, ◌∙◌}
use mathlib.Core.Bool.{Bool, true, false, ◌&&◌}
use mathlib.Core.List.{List}
use Prim.Native.Nat.{ℕ, ◌+◌, ◌<◌, ◌≤◌}
use lib.ListN.{length, drop, get_or, drop_of_length-le}
use Rattle.lists.specs.Tests.{each}
use Rattle.lists.proofs.Places.{drop_next}

-- a loop that returns false at the first element that fails the test t, and true at the end: what is left gives the answer r
module _ {A : Type 0} (t : A → Bool) (s : List A) (i : ℕ) {r : Bool} (inv : each t (drop i s) ≡ r) where
  module _ (h : i < length s) (d : A) where
    here : r ≡ (t (get_or s i d) && each t (drop (i + 1) s))
    here = sym inv ∙ ap (each t) (drop_next s i d h)

    pub each_stop : t (get_or s i d) ≡ false → false ≡ r
    each_stop e = sym (here ∙ rw e)

    pub each_more : t (get_or s i d) ≡ true → each t (drop (i + 1) s) ≡ r
    each_more e = sym (here ∙ rw e)

  pub each_done : length s ≤ i → true ≡ r
  each_done h = sym (ap (each t) (drop_of_length-le s h)) ∙ inv
