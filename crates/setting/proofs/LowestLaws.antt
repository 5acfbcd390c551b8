-- The definition's lowest offset is the least of those of fields outside their rule, and there is only one least. By induction on the list: a field
-- outside its rule is the first of the list, or one of the others.
use mathlib.Core.Path.{◌≡◌, refl, sym, ap, ◌∙◌}
use mathlib.Core.Bool.{Bool, true, false, cond, true≢false}
use mathlib.Core.List.Memᴰ
use mathlib.Core.List.{List, [], ◌∷◌, Memᴰ}
use Rattle.std.specs.Prelude.{Option, None, Some}
use Prim.Native.Nat.{ℕ, ◌≤◌, min}
use native.Mathlib.Omega.{arith}
use lib.Dec.{leb}
use borrow.Author.Tests.{leb-true, leb-false}
use Rattle.setting.specs.declared.Field.{Field}
use Rattle.setting.specs.Values.{offset_of, right, all_right, lower, lowest}
use Rattle.setting.specs.Lowest.{Wrong, Least, LowestGiven}
use Rattle.setting.proofs.FieldLaws.{none_wrong, some_wrong}

-- ---- where a wrong field stands

data Stands (f : Field) (fs : List Field) (x : ℕ) : Type 0 where
  first : offset_of f ≡ x → right f ≡ false → Stands f fs x
  later : Wrong fs x → Stands f fs x

module _ {f : Field} {fs : List Field} where
  stands : {x : ℕ} → Wrong (f ∷ fs) x → Stands f fs x
  stands {x} w = by w.field w.of w.offset w.wrong
    where
      by : (g : Field) → Memᴰ g (f ∷ fs) → offset_of g ≡ x → right g ≡ false → Stands f fs x
      by g (Memᴰ.head e) o r = first (ap offset_of (sym e) ∙ o) (ap right (sym e) ∙ r)
      by g (Memᴰ.tail m) o r = later (record { field = g; of = m; offset = o; wrong = r })

  at_first : right f ≡ false → Wrong (f ∷ fs) (offset_of f)
  at_first e = record { field = f; of = Memᴰ.head refl; offset = refl; wrong = e }

  at_later : {x : ℕ} → Wrong fs x → Wrong (f ∷ fs) x
  at_later w = record { field = w.field; of = Memᴰ.tail w.of; offset = w.offset; wrong = w.wrong }

-- ---- what is given: nothing where no field is wrong, or the least offset

abbrev Given : List Field → Option ℕ → Type 0
Given fs None = (x : ℕ) → Wrong fs x → ⊥
Given fs (Some x) = Least fs x

module _ (f : Field) (fs : List Field) where
  -- the first field is right
  right_first : right f ≡ true → (a : Option ℕ) → Given fs a → Given (f ∷ fs) a
  right_first e None g = λ x w. by (stands w)
    where
      by : {x : ℕ} → Stands f fs x → ⊥
      by (first o r) = true≢false (sym e ∙ r)
      by (later w) = g _ w
  right_first e (Some x) g = record { one = at_later g.one; least = λ y w. by (stands w) }
    where
      by : {y : ℕ} → Stands f fs y → x ≤ y
      by (first o r) = absurd (true≢false (sym e ∙ r))
      by (later w) = g.least _ w

  -- the first field is wrong
  wrong_first : right f ≡ false → (a : Option ℕ) → Given fs a → Given (f ∷ fs) (lower (Some (offset_of f)) a)
  wrong_first e None g = record { one = at_first e; least = λ y w. by (stands w) }
    where
      by : {y : ℕ} → Stands f fs y → offset_of f ≤ y
      by (first o r) = omega (arith, o)
      by (later w) = absurd (g _ w)
  wrong_first e (Some x) g = record { one = one; least = λ y w. by (stands w) }
    where
      pick : (t : Bool) → leb (offset_of f) x ≡ t → Wrong (f ∷ fs) (min (offset_of f) x)
      pick true h = let m : min (offset_of f) x ≡ offset_of f = omega (arith, leb-true (offset_of f) x h) in rw m (at_first e)
      pick false h = let m : min (offset_of f) x ≡ x = omega (arith, leb-false (offset_of f) x h) in rw m (at_later g.one)

      one : Wrong (f ∷ fs) (min (offset_of f) x)
      one = pick (leb (offset_of f) x) refl

      by : {y : ℕ} → Stands f fs y → min (offset_of f) x ≤ y
      by (first o r) = omega (arith, o)
      by (later w) = omega (arith, g.least _ w)

given : (fs : List Field) → Given fs (lowest fs)
given [] = λ x w. Memᴰ.not-nil w.of
given (f ∷ fs) = by (right f) refl (given fs)
  where
    by : (t : Bool) → right f ≡ t → Given fs (lowest fs) → Given (f ∷ fs) (lower (cond t None (Some (offset_of f))) (lowest fs))
    by true e g = right_first f fs e (lowest fs) g
    by false e g = wrong_first f fs e (lowest fs) g

-- ---- and only that

only : {fs : List Field} {x : ℕ} → Least fs x → (a : Option ℕ) → Given fs a → a ≡ Some x
only l None g = absurd (g _ l.one)
only {x = x} l (Some y) g = let e : y ≡ x = omega (arith, g.least x l.one, l.least y g.one) in ap Some e

right_none : (fs : List Field) → all_right fs ≡ true → lowest fs ≡ None
right_none fs e = by (lowest fs) refl
  where
    by : (a : Option ℕ) → lowest fs ≡ a → a ≡ None
    by None h = refl
    by (Some x) h = absurd (true≢false (sym e ∙ some_wrong fs h))

pub lowest_given : LowestGiven
unfolding LowestGiven
lowest_given fs =
    (λ x. (λ e. rw e at (given fs), λ l. only l (lowest fs) (given fs)), none_wrong fs, right_none fs)
