-- Sets in a row. What one set does: the counter is one more, at most M, or zero; the latch stays, is set where the counter is then M, and only there.
-- So by induction over the sets the counter is the row up to now, at most M. A latch was set at an older set, or at the newest, and then the newest M sets
-- counted. The other way, a row of M sets ends at an older set, where the latch was set, and stays; or at the newest, where the counter is M.
use mathlib.Core.Path.{◌≡◌, refl, ap, ◌∙◌}
use mathlib.Core.Logic.{◌⊎◌, inl, inr, ⊎_elim}
use mathlib.Core.Bool.{Bool, true, false, cond, false≢true}
use mathlib.Core.List.{List, [], ◌∷◌, ◌++◌}
use Prim.Native.Nat.{ℕ, zero, suc, ◌+◌, ◌≤◌, min}
use native.Mathlib.Omega.{arith}
use lib.Dec.{ltb}
use lib.ListN.{replicate, drop}
use borrow.Author.Tests.{ltb-true, ltb-false, eq-eqb, eqb-true}
use Rattle.state.specs.declared.Element.{Element}
use Rattle.state.specs.State.{element_after}
use Rattle.state.specs.Rows.{after_sets, InARow, row_now, LatchedInARow, CountedInARow}

-- ---- one set, with c in the counter and the latch set or not

module _ (M c : ℕ) where
  abbrev after : (counts latch : Bool) → Element
  after b l = element_after M b (record { count = c; latch = l })

  counter_grows : c ≤ M → (l : Bool) → (after true l).count ≡ min M (c + 1)
  unfolding element_after
  counter_grows h l = by (ltb c M) refl
    where
      by : (b : Bool) → ltb c M ≡ b → cond b (c + 1) M ≡ min M (c + 1)
      by true e = omega (arith, ltb-true c M e)
      by false e = omega (arith, ltb-false c M e)

  counter_clears : (l : Bool) → (after false l).count ≡ 0
  unfolding element_after
  counter_clears l = refl

  latch_stays : (b l : Bool) → l ≡ true → (after b l).latch ≡ true
  unfolding element_after
  latch_stays b true e = refl
  latch_stays b false e = absurd (false≢true e)

  latch_sets : 1 ≤ M → (b l : Bool) → (after b l).count ≡ M → (after b l).latch ≡ true
  unfolding element_after
  latch_sets h b true e = latch_stays b true refl
  latch_sets h true false e = eq-eqb _ _ e
  latch_sets h false false e = absurd (omega arith)

  latch_only : (b l : Bool) → (after b l).latch ≡ true → (l ≡ true) ⊎ ((after b l).count ≡ M)
  unfolding element_after
  latch_only b true e = inl refl
  latch_only true false e = inr (eqb-true _ _ e)
  latch_only false false e = absurd (false≢true e)

-- ---- rows

leading : (n : ℕ) (bs : List Bool) → n ≤ row_now bs → bs ≡ replicate n true ++ drop n bs
leading zero bs h = refl
leading (suc n) [] h = absurd (omega arith)
leading (suc n) (true ∷ bs) h = ap (λ (t : List Bool). true ∷ t) (leading n bs (omega arith))
leading (suc n) (false ∷ bs) h = absurd (omega arith)

-- at the newest sets, or at older ones
at_newest : {n : ℕ} {bs : List Bool} → n ≤ row_now bs → InARow n bs
at_newest {n} {bs} h = record { newer = []; older = drop n bs; is = leading n bs h }

pub at_older : {n : ℕ} {bs : List Bool} (b : Bool) → InARow n bs → InARow n (b ∷ bs)
at_older b r = record { newer = b ∷ r.newer; older = r.older; is = ap (λ (t : List Bool). b ∷ t) r.is }

row_long : (n : ℕ) (bs : List Bool) → n ≤ row_now (replicate n true ++ bs)
row_long zero bs = omega arith
row_long (suc n) bs = omega (arith, row_long n bs)

-- ---- all the sets

module _ (M : ℕ) where
  counted : (bs : List Bool) → (after_sets M bs).count ≡ min M (row_now bs)
  counted [] = omega arith
  counted (true ∷ bs) = let h = counted bs in let e = after_sets M bs in counter_grows M e.count (omega arith) e.latch ∙ omega arith
  counted (false ∷ bs) = let e = after_sets M bs in counter_clears M e.count e.latch ∙ omega arith

  -- a latch, and a row of M or fewer
  row_of : {n : ℕ} → n ≤ M → (bs : List Bool) → (after_sets M bs).latch ≡ true → InARow n bs
  row_of h [] e = absurd (false≢true e)
  row_of h (b ∷ bs) e =
      let was = after_sets M bs in
      ⊎_elim (λ l. at_older b (row_of h bs l)) (λ f. at_newest (omega (arith, counted (b ∷ bs)))) (latch_only M was.count b was.latch e)

  -- a row of M or more up to now, and one at some time
  module _ (some : 1 ≤ M) where
    latch_now : (bs : List Bool) → M ≤ row_now bs → (after_sets M bs).latch ≡ true
    latch_now [] h = absurd (omega arith)
    latch_now (b ∷ bs) h = let e = after_sets M bs in latch_sets M e.count some b e.latch (omega (arith, counted (b ∷ bs)))

    latch_since : {n : ℕ} → M ≤ n → (newer older : List Bool) → (after_sets M (newer ++ (replicate n true ++ older))).latch ≡ true
    latch_since {n} h [] older = latch_now (replicate n true ++ older) (omega (arith, row_long n older))
    latch_since {n} h (b ∷ newer) older =
        let e = after_sets M (newer ++ (replicate n true ++ older)) in
        latch_stays M e.count b e.latch (latch_since h newer older)

    latch_of : {n : ℕ} → M ≤ n → {bs : List Bool} → InARow n bs → (after_sets M bs).latch ≡ true
    latch_of h r = rw r.is (latch_since h r.newer r.older)

pub latched_in_a_row : LatchedInARow
unfolding LatchedInARow
latched_in_a_row M some bs = (row_of M (omega arith) bs, latch_of M some (omega arith))

pub counted_in_a_row : CountedInARow
unfolding CountedInARow
counted_in_a_row M bs = counted M bs
