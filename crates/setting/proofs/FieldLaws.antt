-- The search for a field outside its rule. A loop looks at field after field, in block order, and stops at the first; of fields whose offsets rise, the
-- first has the lowest. Of two lists that are searched one beside the other, the lower of the two offsets is the lowest of both.
use mathlib.Core.Path.{◌≡◌, refl, sym, ap}
use mathlib.Core.Bool.{Bool, true, false, cond, ◌&&◌}
use mathlib.Core.List.{List, [], ◌∷◌, ◌++◌}
use Rattle.std.specs.Prelude.{Option, None, Some, find, option_map, not}
use Prim.Native.Nat.{ℕ, ◌≤◌, min}
use native.Mathlib.Omega.{arith}
use lib.Dec.{T, leb, leb→le}
use Rattle.lists.proofs.TestLaws.{split}
use Rattle.setting.specs.declared.Field.{Field}
use Rattle.setting.specs.Values.{offset_of, right, all_right, lower, wrong_at, lowest}

-- ---- the search in block order

abbrev pub first_wrong : List Field → Option ℕ
first_wrong fs = option_map offset_of (find (λ f. not (right f)) fs)

-- ---- of fields whose offsets rise, the first is the lowest

-- no offset is below the one before it, nor the first below x
abbrev pub rising : ℕ → List Field → Bool
rising x [] = true
rising x (f ∷ fs) = leb x (offset_of f) && rising (offset_of f) fs

pub lower_left : {x y : ℕ} → x ≤ y → Some x ≡ lower (Some x) (Some y)
lower_left {x} {y} h = let e : x ≡ min x y = omega arith in ap Some e

pub lower_right : {x y : ℕ} → y ≤ x → Some y ≡ lower (Some x) (Some y)
lower_right {x} {y} h = let e : y ≡ min x y = omega arith in ap Some e

-- what rises from y on is not below x, where y is not
above : (x y : ℕ) → x ≤ y → (fs : List Field) → T (rising y fs) → lower (Some x) (lowest fs) ≡ Some x
above x y l [] h = refl
above x y l (f ∷ fs) h =
    let k = split (leb y (offset_of f)) (rising (offset_of f) fs) h in
    let m : x ≤ offset_of f = omega (arith, leb→le y (offset_of f) k.0) in
    by (right f) m (above x (offset_of f) m fs k.1) (above (offset_of f) (offset_of f) (omega arith) fs k.1)
  where
    by : (t : Bool) → x ≤ offset_of f → lower (Some x) (lowest fs) ≡ Some x → lower (Some (offset_of f)) (lowest fs) ≡ Some (offset_of f) →
        lower (Some x) (lower (cond t None (Some (offset_of f))) (lowest fs)) ≡ Some x
    by true m p q = p
    by false m p q = rw q (sym (lower_left m))

pub first_lowest : (x : ℕ) (fs : List Field) → T (rising x fs) → first_wrong fs ≡ lowest fs
first_lowest x [] h = refl
first_lowest x (f ∷ fs) h =
    let k = split (leb x (offset_of f)) (rising (offset_of f) fs) h in
    by (right f) (first_lowest (offset_of f) fs k.1) (above (offset_of f) (offset_of f) (omega arith) fs k.1)
  where
    by : (t : Bool) → first_wrong fs ≡ lowest fs → lower (Some (offset_of f)) (lowest fs) ≡ Some (offset_of f) →
        option_map offset_of (cond (not t) (Some f) (find (λ f. not (right f)) fs)) ≡ lower (cond t None (Some (offset_of f))) (lowest fs)
    by true p q = p
    by false p q = sym q

-- ---- two lists, one beside the other

min_assoc : (x y z : ℕ) → min x (min y z) ≡ min (min x y) z
min_assoc x y z = omega arith

lower_assoc : (a b c : Option ℕ) → lower a (lower b c) ≡ lower (lower a b) c
lower_assoc None b c = refl
lower_assoc (Some x) None c = refl
lower_assoc (Some x) (Some y) None = refl
lower_assoc (Some x) (Some y) (Some z) = ap Some (min_assoc x y z)

pub lowest-++ : (fs gs : List Field) → lowest (fs ++ gs) ≡ lower (lowest fs) (lowest gs)
lowest-++ [] gs = refl
lowest-++ (f ∷ fs) gs = rw (lowest-++ fs gs) (lower_assoc (wrong_at f) (lowest fs) (lowest gs))

pub lower_none : (a b : Option ℕ) → lower a b ≡ None → a ≡ None
lower_none None b e = refl
lower_none (Some x) None e = e
lower_none (Some x) (Some y) e = cc

-- ---- an offset is given where, and only where, some field is not right

abbrev Tells : List Field → Option ℕ → Type 0
Tells fs None = all_right fs ≡ true
Tells fs (Some x) = all_right fs ≡ false

tells : (fs : List Field) → Tells fs (lowest fs)
tells [] = refl
tells (f ∷ fs) = by (right f) refl (lowest fs) (tells fs)
  where
    by : (t : Bool) → right f ≡ t → (a : Option ℕ) → Tells fs a → Tells (f ∷ fs) (lower (cond t None (Some (offset_of f))) a)
    by true e None h = rw (e, h)
    by true e (Some x) h = rw (e, h)
    by false e None h = rw e
    by false e (Some x) h = rw e

pub none_wrong : (fs : List Field) → lowest fs ≡ None → all_right fs ≡ true
none_wrong fs e = rw e at (tells fs)

pub some_wrong : (fs : List Field) {x : ℕ} → lowest fs ≡ Some x → all_right fs ≡ false
some_wrong fs e = rw e at (tells fs)
