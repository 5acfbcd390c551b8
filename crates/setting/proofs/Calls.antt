-- A list made by a call at each number below its length (`array::from_fn`), of a closure that each call leaves as it was: it is `up_to`.
use mathlib.Core.Path.{◌≡◌, refl, sym, subst, ◌∙◌}
use mathlib.Core.Bool.{Bool, true, false}
use mathlib.Core.List.{List}
use lib.Dec.{eqb}
use borrow.Author.Tests.{eqb-true, eqb-false}
use Prim.Native.Nat.{ℕ, zero, suc, ◌+◌, ◌≤◌, ◌<◌}
use native.Mathlib.Omega.{arith}
use lib.ListN.{get_or}
use lib.Seq.{take_all}
use denote.Param.Members.{Mut}
use Rattle.std.specs.Fn.{Called}
use Rattle.std.specs.Array.{IsFromFnResult, IsFromFnResultFrom}
use Rattle.lists.specs.Lists.{up_to}
use Rattle.lists.proofs.Places.{take_up_to, up_to_same}

module _ {F B : Type 0} (g : Mut F (ℕ × Unit {0}) B) (f : F) (h : ℕ → B) (ys : List B) (d : B) (n : ℕ)
    (says : (i : ℕ) (r : B) (q : F) → i < n → Called g f (i, tt) r q → (q ≡ f) × (r ≡ h i)) where
  at_each : (m i k : ℕ) (p : F) → p ≡ f → IsFromFnResultFrom g p ys i m → i + m ≤ n → i ≤ k → k < i + m → get_or ys k d ≡ h k
  at_each zero i k p e r t l u = absurd (omega arith)
  at_each (suc m) i k p e r t l u =
      let s = says i r.1 r.0 (omega arith) (subst (λ q. Called g q (i, tt) r.1 r.0) e r.3) in
      by s.1 (λ (o : i + 1 ≤ k). at_each m (i + 1) k r.0 s.0 r.4 (omega arith) o (omega arith)) (eqb i k) refl
    where
      by : r.1 ≡ h i → (i + 1 ≤ k → get_or ys k d ≡ h k) → (b : Bool) → eqb i k ≡ b → get_or ys k d ≡ h k
      by here rest true a = let at : k ≡ i = omega (arith, eqb-true i k a) in rw at (r.2.1 d ∙ here)
      by here rest false a = rest (omega (arith, eqb-false i k a))

  pub made : IsFromFnResult g f ys n → ys ≡ up_to n h
  made m =
      sym (take_all n ys (omega (arith, m.long)))
      ∙ take_up_to n ys d (omega (arith, m.long))
      ∙ up_to_same n (λ k. get_or ys k d) h (λ k l. at_each n 0 k f refl m.each (omega arith) (omega arith) (omega arith))
