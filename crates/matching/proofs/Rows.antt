-- The 24 pairs of a group and a filter: one test, which antt computes, carried to every pair.
use mathlib.Core.Path.{◌≡◌}
use mathlib.Core.Bool.{Bool, true, false, cond}
use mathlib.Core.List.{List, [], ◌∷◌}
use Prim.Native.Nat.{ℕ, ◌*◌, ◌^◌, ◌≤◌, ◌<◌}
use native.Mathlib.Nat.{mul-le-mul_right}
use lib.Dec.{T, leb, ltb, leb→le, ltb→lt}
use lib.IntN.{ℤ, pos, ◌+ℤ◌}
use Rattle.integer.specs.Within.{◌within◌, eq_z}
use Rattle.lists.specs.Tests.{hold, every}
use Rattle.integer.proofs.Laws.{within-≤, within_is, eq_z→≡}
use Rattle.lists.proofs.TestLaws.{hold_at, every_at, when, unless}
use Rattle.matching.specs.declared.Three.{Three}
use Rattle.matching.specs.Matching.{three, operation, even, sum3, operated}
use Rattle.matching.specs.Sets.{from_next}
use Rattle.matching.specs.Bank.{line_current, gained, ideal}
use Rattle.matching.specs.Weights.{own, next, before, parts}
use Rattle.matching.specs.MatchingInput.{OperationInput}
use Rattle.matching.proofs.Forms.{◌·◌, form_of, linear_group, size, form_within}

-- ---- the two forms of a pair

-- what K/65,536 multiplies, in parts of 4053
abbrev pub matching : ℕ → Bool → Three
matching g f = form_of (λ x. parts (operated (even g) f g x))

-- k times the ideal currents, and what they are over
abbrev pub currents : ℕ → Bool → Three
currents g f = form_of (λ w. (ideal (even g) f g w).top)

abbrev pub currents_under : ℕ → Bool → ℕ
currents_under g f = (ideal (even g) f g own).under

-- what the form t gives of w at each of the three phases
abbrev pub spread : Three → Three → Three
spread t w = three (t · w) (t · from_next w) (t · from_next (from_next w))

-- what the matching makes of the ideal currents of w
abbrev pub chain : ℕ → Bool → Three → ℤ
chain g f w = matching g f · spread (currents g f) w

-- ---- what holds of each pair

pub record GroupRow (g : ℕ) (f : Bool) : Type 0 where
  pub least : 0 < currents_under g f
  -- the sizes of the coefficients sum to at most 6031 parts
  pub small : size (matching g f) ≤ 6031
  -- the filter takes out what is the same on the three phases
  pub flat : f ≡ true → sum3 (matching g f) ≡ pos 0
  -- the matching undoes the bank's operation, up to the same multiple of each limb
  pub alone : chain g f own ≡ pos (currents_under g f * 4053) +ℤ chain g f next
  pub level : chain g f before ≡ chain g f next
  -- and with no such multiple where the filter is off
  pub passed : f ≡ false → chain g f next ≡ pos 0

-- the test of a pair
facts : Bool → ℕ → List Bool
facts f g =
    ltb 0 (currents_under g f)
    ∷ leb (size (matching g f)) 6031
    ∷ cond f (eq_z (sum3 (matching g f)) (pos 0)) true
    ∷ eq_z (chain g f own) (pos (currents_under g f * 4053) +ℤ chain g f next)
    ∷ eq_z (chain g f before) (chain g f next)
    ∷ cond f true (eq_z (chain g f next) (pos 0))
    ∷ []

checked : (f : Bool) → T (every 12 (λ g. hold (facts f g)))
unfolding facts eq_z operated line_current gained ideal operation ◌·◌
checked true = tt
checked false = tt

pub group_row : (g : ℕ) (f : Bool) → g < 12 → GroupRow g f
unfolding facts
group_row g f l =
    let at = hold_at (facts f g) (every_at 12 (λ g. hold (facts f g)) (checked f) g l) in
    record {
      least = ltb→lt _ _ (at 0);
      small = leb→le _ _ (at 1);
      flat = λ e. eq_z→≡ _ _ (when f _ (at 2) e);
      alone = eq_z→≡ _ _ (at 3);
      level = eq_z→≡ _ _ (at 4);
      passed = λ e. eq_z→≡ _ _ (unless f _ (at 5) e);
    }

-- ---- the twelve groups: the sizes of the coefficients sum to at most 2

abbrev of_group : ℕ → Three
of_group g = form_of (λ x. operation g x.p x.n x.q)

two_at_most : T (every 12 (λ g. leb (size (of_group g)) 2))
unfolding operation
two_at_most = tt

pub operation_within : {g : ℕ} {p n q : ℤ} → g < 12 → OperationInput p n q → operation g p n q within 2 ^ 21
operation_within {g} {p} {n} {q} l s =
    let two : size (of_group g) ≤ 2 = leb→le _ _ (every_at 12 (λ g. leb (size (of_group g)) 2) two_at_most g l) in
    within_is ((linear_group g l).is (three p n q))
    (within-≤ (form_within (of_group g) s.own s.next s.before) (mul-le-mul_right (2 ^ 20) two))
