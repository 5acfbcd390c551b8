-- Samples negated (card 1): what the matching multiplies is a linear form of them, so it is negated, and with it the matched number. So that of samples
-- that are zero is zero.
use mathlib.Core.Path.{◌≡◌, refl, ap, sym, ◌∙◌}
use mathlib.Core.Bool.{Bool, true, false, cond}
use mathlib.Core.List.{List, map}
use Prim.Native.Nat.{ℕ, ◌+◌, ◌*◌, ◌/◌, ◌%◌, ◌<◌}
use native.Mathlib.Omega.{arith}
use lib.Dec.{T, ltb}
use lib.IntN.{ℤ, pos, neg_ℤ, ◌*ℤ◌}
use borrow.Author.Tests.{ltb-true}
use lib.ListN.{get_or-map}
use Rattle.integer.proofs.Laws.{*ℤ-negℤ}
use Rattle.integer.proofs.Reading.{ints}
use Rattle.integer.proofs.HalfUnit.{nearest_away_neg}
use Rattle.lists.proofs.Places.{up_to_same}
use Rattle.lists.proofs.Maps.{map_up_to}
use Rattle.setting.specs.declared.Setting.{Setting}
use Rattle.setting.specs.Values.{end_of, factor, startable}
use Rattle.setting.proofs.LimitLaws.{startable_is}
use Rattle.matching.specs.declared.Three.{Three}
use Rattle.matching.specs.Matching.{three, even, operated, matched}
use Rattle.matching.specs.Sets.{System, sys_a, sys_b, sys_c, system, seen, phases, filtered, matched_at, place_of, numbers}
use Rattle.matching.specs.Weights.{parts}
use Rattle.matching.proofs.Forms.{◌·◌, linear_parts}
use Rattle.matching.proofs.Rows.{matching}
use Rattle.matching.proofs.Parts.{matched_in_parts}

-- three numbers negated
abbrev opposite : Three → Three
opposite x = three (neg_ℤ x.p) (neg_ℤ x.n) (neg_ℤ x.q)

abbrev zeros : Three
zeros = three (pos 0) (pos 0) (pos 0)

form_opposite : (f x : Three) → f · opposite x ≡ neg_ℤ (f · x)
unfolding ◌·◌
form_opposite f x = simp ints (omega arith)

module _ (g : ℕ) (h : g < 12) (f : Bool) (x : Three) where
  parts_opposite : parts (operated (even g) f g (opposite x)) ≡ neg_ℤ (parts (operated (even g) f g x))
  parts_opposite =
      let l = linear_parts (even g) f g h in l.is (opposite x) ∙ form_opposite (matching g f) x ∙ ap neg_ℤ (sym (l.is x))

  matched_opposite : (K : ℤ) → matched K g f (opposite x) ≡ neg_ℤ (matched K g f x)
  matched_opposite K =
      let m = parts (operated (even g) f g x) in
      rw (matched_in_parts K g f (opposite x), matched_in_parts K g f x, parts_opposite, *ℤ-negℤ K m) (nearest_away_neg (K *ℤ m) (65536 * 4053) (omega arith))

-- so that of three zeros, which are their own opposite, is zero
its_own_opposite : (x : ℤ) → x ≡ neg_ℤ x → x ≡ pos 0
its_own_opposite x = simp ints (omega arith)

zeros_matched : (g : ℕ) → g < 12 → (f : Bool) (K : ℤ) → matched K g f zeros ≡ pos 0
zeros_matched g h f K = its_own_opposite (matched K g f zeros) (matched_opposite g h f zeros K)

seen_opposite : (l : System) (x : Three) → seen l (opposite x) ≡ opposite (seen l x)
unfolding seen
seen_opposite sys_a x = refl
seen_opposite sys_b x = refl
seen_opposite sys_c x = refl

phases_opposite : (xs : List ℤ) (z : ℕ) → phases (map neg_ℤ xs) z ≡ opposite (phases xs z)
phases_opposite xs z =
    rw (get_or-map neg_ℤ xs (3 * z) (pos 0), get_or-map neg_ℤ xs (3 * z + 1) (pos 0), get_or-map neg_ℤ xs (3 * z + 2) (pos 0))

seen_zeros : (l : System) → seen l zeros ≡ zeros
unfolding seen
seen_zeros sys_a = refl
seen_zeros sys_b = refl
seen_zeros sys_c = refl

module _ (v : Setting) (start : T (startable v)) (xs : List ℤ) where
  pub matched_at_zero : (z : ℕ) → z < v.ends → (l : System) → phases xs z ≡ zeros → matched_at v xs z l ≡ pos 0
  unfolding matched_at
  matched_at_zero z h l none =
      let e = end_of v z in
      rw (none, seen_zeros l) (zeros_matched e.group ((startable_is v start).limits.group z h) (filtered e) (factor v z))

  matched_at_negated : (z : ℕ) → z < v.ends → (l : System) → matched_at v (map neg_ℤ xs) z l ≡ neg_ℤ (matched_at v xs z l)
  unfolding matched_at
  matched_at_negated z h l =
      let e = end_of v z in
      rw (phases_opposite xs z, seen_opposite l (phases xs z))
      (matched_opposite e.group ((startable_is v start).limits.group z h) (filtered e) (seen l (phases xs z)) (factor v z))

  place_negated : (z : ℕ) (l : System) → place_of v (map neg_ℤ xs) z l ≡ neg_ℤ (place_of v xs z l)
  place_negated z l = by (ltb z v.ends) refl
    where
      by : (b : Bool) → ltb z v.ends ≡ b → cond b (matched_at v (map neg_ℤ xs) z l) (pos 0) ≡ neg_ℤ (cond b (matched_at v xs z l) (pos 0))
      by true e = matched_at_negated z (ltb-true z v.ends e) l
      by false e = refl

  pub numbers_negated : numbers v (map neg_ℤ xs) ≡ map neg_ℤ (numbers v xs)
  unfolding numbers
  numbers_negated =
      up_to_same 12 _ _ (λ j h. place_negated (j / 3) (system (j % 3))) ∙ sym (map_up_to neg_ℤ 12 (λ j. place_of v xs (j / 3) (system (j % 3))))
