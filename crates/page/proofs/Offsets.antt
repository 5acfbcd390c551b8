-- The page by offsets: eight bytes, then the six currents of four bytes each, then zeros. So a byte from 8 on is that of a current, or zero; and the bytes
-- that show nothing measured are the same whatever is measured.
use mathlib.Core.Path.{◌≡◌, refl, sym, ap, ◌∙◌}
use mathlib.Core.Bool.{Bool, true, false, ◌||◌, true≢false}
use mathlib.Core.List.{List, [], ◌∷◌, ◌++◌, map, flatten}
use Prim.Native.Nat.{ℕ, zero, suc, ◌+◌, ◌*◌, ◌-◌, ◌/◌, ◌%◌, ◌≤◌, ◌<◌}
use native.Mathlib.Omega.{arith}
use lib.Dec.{ltb, eqb}
use borrow.Author.Tests.{ltb-true, ltb-false}
use lib.ListN.{length, get_or, replicate, get_or-append}
use lib.Seq.{get_or-append-add}
use Rattle.lists.specs.Tests.{none, ◌&◌}
use Rattle.lists.proofs.Places.{flat_at}
use Rattle.bits.specs.Bits.{mask_of}
use Rattle.block.specs.Bytes.{bytes32}
use Rattle.measuring.specs.declared.Reading.{Reading}
use Rattle.state.specs.declared.Element.{Element}
use Rattle.systems.specs.declared.Systems.{Systems}
use Rattle.state.specs.State.{latches_of}
use Rattle.page.specs.declared.Events.{Events}
use Rattle.page.specs.Events.{interrupt}
use Rattle.page.specs.Page.{starts_of, blocks_of, currents, page, measured_at}

-- a number in a place past the first n
pub past : (xs ys : List ℕ) (at : ℕ) → length xs ≤ at → get_or (xs ++ ys) at 0 ≡ get_or ys (at - length xs) 0
past xs ys at h =
    let e : at ≡ length xs + (at - length xs) = omega arith in
    ap (λ (k : ℕ). get_or (xs ++ ys) k 0) e ∙ get_or-append-add xs ys (at - length xs) 0

-- the bytes of a number in a list
word_at : (ns : List ℕ) (k : ℕ) → k < length ns → get_or (map bytes32 ns) k [] ≡ bytes32 (get_or ns k 0)
word_at [] k h = absurd (omega arith)
word_at (n ∷ ns) zero h = refl
word_at (n ∷ ns) (suc k) h = word_at ns k (omega arith)

-- a number among zeros, or past them
among_zeros : (n k : ℕ) → ◌≡◌ {A = ℕ} (get_or (replicate n 0) k 0) 0
among_zeros zero k = refl
among_zeros (suc n) zero = refl
among_zeros (suc n) (suc k) = among_zeros n k

module _ (t : Systems Element) (m : Systems Reading) (e : Events) where
  abbrev head : List ℕ
  head = mask_of (latches_of t) ∷ mask_of (starts_of m) ∷ mask_of (blocks_of m) ∷ e.flags ∷ e.mask ∷ interrupt e ∷ 0 ∷ 0 ∷ []

  abbrev words : List (List ℕ)
  words = map bytes32 (currents m)

  -- zero at 6 and 7
  pub spare_at : (at : ℕ) → 6 ≤ at → at < 8 → ◌≡◌ {A = ℕ} (get_or (page t m e) at 0) 0
  unfolding page
  spare_at at h l =
      let i : at - 6 < 2 = omega arith in
      past (mask_of (latches_of t) ∷ mask_of (starts_of m) ∷ mask_of (blocks_of m) ∷ e.flags ∷ e.mask ∷ interrupt e ∷ []) (0 ∷ 0 ∷ (flatten words ++ replicate 32 0)) at h
      ∙ get_or-append (0 ∷ 0 ∷ []) (flatten words ++ replicate 32 0) 0 (at - 6) i
      ∙ among_zeros 2 (at - 6)

  -- a byte of a current
  pub current_at : (at : ℕ) → 8 ≤ at → at < 32 → get_or (page t m e) at 0 ≡ get_or (bytes32 (get_or (currents m) ((at - 8) / 4) 0)) ((at - 8) % 4) 0
  unfolding page
  current_at at h l =
      let i = at - 8 in
      let e : i ≡ 4 * (i / 4) + i % 4 = omega arith in
      past head (flatten words ++ replicate 32 0) at h
      ∙ ap (λ (k : ℕ). get_or (flatten words ++ replicate 32 0) k 0) e
      ∙ flat_at {ls = words} (refl & refl & refl & refl & refl & refl & none) (replicate 32 0) (i / 4) (i % 4) 0 (omega arith) (omega arith)
      ∙ ap (λ (w : List ℕ). get_or w (i % 4) 0) (word_at (currents m) (i / 4) (omega arith))

  -- zero from 32 on
  pub zero_at : (at : ℕ) → 32 ≤ at → ◌≡◌ {A = ℕ} (get_or (page t m e) at 0) 0
  unfolding page flatten
  zero_at at h = past (head ++ flatten words) (replicate 32 0) at h ∙ among_zeros 32 (at - 32)

-- lists that differ in places 1 and 2 alone
apart : (a x y x' y' : ℕ) (zs : List ℕ) (at : ℕ) → (eqb at 1 || eqb at 2) ≡ false → get_or (a ∷ x ∷ y ∷ zs) at 0 ≡ get_or (a ∷ x' ∷ y' ∷ zs) at 0
apart a x y x' y' zs zero h = refl
apart a x y x' y' zs (suc zero) h = absurd (true≢false h)
apart a x y x' y' zs (suc (suc zero)) h = absurd (true≢false h)
apart a x y x' y' zs (suc (suc (suc k))) h = refl

-- bytes that show nothing measured
pub unmeasured : (t : Systems Element) (m n : Systems Reading) (e : Events) (at : ℕ) → measured_at at ≡ false → get_or (page t m e) at 0 ≡ get_or (page t n e) at 0
unfolding page
unmeasured t m n e at h = by (ltb at 8) refl
  where
    front : (k : Systems Reading) → at < 8 → get_or (page t k e) at 0 ≡ get_or (head t k e) at 0
    front k l = get_or-append (head t k e) (flatten (words t k e) ++ replicate 32 0) 0 at l

    by : (b : Bool) → ltb at 8 ≡ b → get_or (page t m e) at 0 ≡ get_or (page t n e) at 0
    by true l =
        let few = ltb-true at 8 l in
        let rest = e.flags ∷ e.mask ∷ interrupt e ∷ 0 ∷ 0 ∷ [] in
        let heads = apart (mask_of (latches_of t)) (mask_of (starts_of m)) (mask_of (blocks_of m)) (mask_of (starts_of n)) (mask_of (blocks_of n)) rest at (rw l at h) in
        front m few ∙ heads ∙ sym (front n few)
    by false l = let far = ltb-false at 32 (rw l at h) in zero_at t m e at far ∙ sym (zero_at t n e at far)
