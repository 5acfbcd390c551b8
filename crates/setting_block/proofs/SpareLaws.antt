-- The zero bytes: the few before 77 and the run from 77 on. Their offsets rise, so that the lowest that is not zero is the first: one of the few, or where
-- these are zero the first of the run.
use mathlib.Core.Path.{◌≡◌, refl, sym, ap, ◌∙◌}
use mathlib.Core.Bool.{Bool, true, false, not, cond}
use mathlib.Core.List.{List, [], ◌∷◌, map}
use Prim.Native.Nat.{ℕ, zero, suc, ◌+◌, ◌≤◌}
use native.Mathlib.Nat.{add-zero}
use native.Mathlib.Omega.{arith}
use lib.Dec.{T, eqb}
use lib.ListN.{length, get_or, take, drop}
use Rattle.std.specs.Prelude.{Option, None, Some, option_map, find}
use Rattle.std.specs.Option.{option_or}
use Rattle.std.specs.List.{position_from}
use Rattle.std.proofs.lemmas.List.Folds.{find-append}
use Rattle.lists.specs.Lists.{up_to}
use Rattle.lists.specs.Tests.{each}
use Rattle.lists.proofs.Places.{up_to_same, drop_next}
use Rattle.lists.proofs.TestLaws.{split, is_true}
use Rattle.block.specs.Bytes.{zeros}
use Rattle.setting.specs.Values.{offset_of, right, lowest}
use Rattle.setting.proofs.FieldLaws.{first_wrong, first_lowest}
use Rattle.setting_block.specs.Layout.{few_spares, spare_offsets, spare, spares}

-- a byte is not zero; the byte at an offset
abbrev pub some_bit : ℕ → Bool
some_bit x = not (eqb x 0)

abbrev pub set_at : List ℕ → ℕ → Bool
set_at s at = some_bit (get_or s at 0)

abbrev pub run : List ℕ
run = up_to 433 (λ i. 77 + i)

-- ---- the lowest

search_lem : (s offsets : List ℕ) → first_wrong (map (spare s) offsets) ≡ find (set_at s) offsets
search_lem s [] = refl
search_lem s (at ∷ offsets) = by (eqb (get_or s at 0) 0) (search_lem s offsets)
  where
    by : (t : Bool) → first_wrong (map (spare s) offsets) ≡ find (set_at s) offsets →
        option_map offset_of (cond (not t) (Some (spare s at)) (find (λ f. not (right f)) (map (spare s) offsets))) ≡ cond (not t) (Some at) (find (set_at s) offsets)
    by true e = e
    by false e = refl

lowest_first : (s : List ℕ) → first_wrong (spares s) ≡ lowest (spares s)
unfolding spares up_to
lowest_first s = first_lowest 0 (spares s) tt

pub lowest_is : (s : List ℕ) → lowest (spares s) ≡ option_or (find (set_at s) few_spares) (find (set_at s) run)
unfolding spares
lowest_is s = sym (lowest_first s) ∙ search_lem s spare_offsets ∙ find-append (set_at s) few_spares run

-- ---- the run

-- found by its place k in a part of the block, the byte stands m + k from its start
run_from : (s : List ℕ) (n at m j : ℕ) → at + n ≤ length s → m + j ≡ at →
    find (set_at s) (up_to n (λ i. at + i)) ≡ option_map (λ k. m + k) (position_from some_bit j (take n (drop at s)))
unfolding up_to
run_from s zero at m j l e = refl
run_from s (suc n) at m j l e =
    let next = run_from s n (at + 1) m (j + 1) (omega arith) (omega arith) in
    rw (drop_next s at 0 (omega arith), add-zero at, up_to_same n (λ i. at + suc i) (λ i. (at + 1) + i) (λ i h. omega arith)) (by (eqb (get_or s at 0) 0) next)
  where
    by : (t : Bool) →
        find (set_at s) (up_to n (λ i. (at + 1) + i)) ≡ option_map (λ k. m + k) (position_from some_bit (j + 1) (take n (drop (at + 1) s))) →
        cond (not t) (Some at) (find (set_at s) (up_to n (λ i. (at + 1) + i)))
        ≡ option_map (λ k. m + k) (cond (not t) (Some j) (position_from some_bit (j + 1) (take n (drop (at + 1) s))))
    by true h = h
    by false h = ap Some (sym e)

pub run_is : (s : List ℕ) → length s ≡ 512 → find (set_at s) run ≡ option_map (λ k. 77 + k) (position_from some_bit 0 (take 433 (drop 77 s)))
run_is s l = run_from s 433 77 77 0 (omega arith) refl

-- where all of it is zero
none_set : (xs : List ℕ) (j : ℕ) → T (each (λ x. eqb x 0) xs) → position_from some_bit j xs ≡ None
none_set [] j z = refl
none_set (x ∷ xs) j z =
    let h = split (eqb x 0) _ z in
    let e : eqb x 0 ≡ true = is_true h.0 in
    rw e (none_set xs (j + 1) h.1)

pub run_zero : (s : List ℕ) → length s ≡ 512 → zeros (take 433 (drop 77 s)) ≡ true → find (set_at s) run ≡ None
unfolding zeros
run_zero s l z = run_is s l ∙ rw (none_set (take 433 (drop 77 s)) 0 (rw z tt))
