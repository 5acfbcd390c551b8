-- A loop that fills a list from the front, one store a turn: after k turns the first k places hold f, and after all of them the list is f's.
use mathlib.Core.Path.{◌≡◌, sym, ◌∙◌}
use mathlib.Core.List.{List}
use Prim.Native.Nat.{ℕ, zero, suc, ◌+◌, ◌≤◌, ◌<◌}
use native.Mathlib.Omega.{arith}
use borrow.Author.Count.{below_more}
use lib.ListN.{length, get_or, set, length-set}
use lib.Seq.{get_or-set_same, get_or-set_other, take_all}
use Rattle.lists.specs.Lists.{up_to}
use Rattle.lists.proofs.Places.{get_or_up_to, take_up_to, up_to_same}

-- of n places, the first k hold f
pub record Filled {A : Type 0} (d : A) (n : ℕ) (f : ℕ → A) (t : List A) (k : ℕ) : Type 0 where
  pub few : k ≤ n
  pub long : length t ≡ n
  pub same : (j : ℕ) → j < k → get_or t j d ≡ f j

module _ {A : Type 0} {d : A} {n : ℕ} {f : ℕ → A} {t : List A} where
  pub filled_none : length t ≡ n → Filled d n f t 0
  filled_none l = record { few = omega arith; long = l; same = λ j h. absurd (omega arith) }

  pub filled_more : {k : ℕ} {x : A} → Filled d n f t k → k < n → x ≡ f k → Filled d n f (set t k x) (k + 1)
  filled_more {k} {x} h l e =
      record {
        few = omega arith;
        long = simp length-set h.long;
        same =
            below_more
            (λ j. get_or (set t k x) j d ≡ f j)
            k
            (λ j i. get_or-set_other t k j x d (omega arith) ∙ h.same j i)
            (get_or-set_same t k x d (omega (arith, h.long)) ∙ e);
      }

  pub filled_all : {k : ℕ} → Filled d n f t k → n ≤ k → t ≡ up_to n f
  filled_all {k} h l =
      sym (take_all n t (omega (arith, h.long))) ∙ take_up_to n t d (omega (arith, h.long)) ∙ up_to_same n (λ j. get_or t j d) f (λ j i. h.same j (omega arith))

-- a place of such a list
pub place : {A : Type 0} (d : A) (f : ℕ → A) {n : ℕ} {t : List A} → t ≡ up_to n f → (k : ℕ) → k < n → get_or t k d ≡ f k
place d f {n} e k l = rw e (get_or_up_to n f k d l)

-- what holds of each f k, and of the element that stands past the end
module _ {A : Type 0} (P : A → Type 0) (d : A) (past : P d) where
  pub each_place : (n : ℕ) (f : ℕ → A) → ((k : ℕ) → P (f k)) → (k : ℕ) → P (get_or (up_to n f) k d)
  unfolding up_to
  each_place zero f h k = past
  each_place (suc n) f h zero = h 0
  each_place (suc n) f h (suc k) = each_place n (λ j. f (suc j)) (λ j. h (suc j)) k
