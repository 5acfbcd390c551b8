-- Setting values and their rules (§ The setting block; the limits of § Matching 3).
use Rattle.std.specs.Prelude.{Bool, true, not, ◌&&◌, cond, List, [], ◌∷◌, ◌++◌, ℕ, ◌+◌, ◌*◌, min, leb, ltb, eqb, get_or, ℤ, pos, count_by, Option, None, Some}
use Rattle.std.specs.Int.Signed.{le_z}
use Rattle.integer.specs.Nearest.{nearest}
use Rattle.lists.specs.Lists.{up_to}
use Rattle.lists.specs.Tests.{each}
use Rattle.refusal.specs.Refusals.{Row, ◌when◌, ◌at◌when◌, none_applies}
use Rattle.setting.specs.declared.End.{End}
use Rattle.setting.specs.declared.Field.{Field}
use Rattle.setting.specs.declared.Overcurrent.{Overcurrent}
use Rattle.setting.specs.declared.Setting.{Setting}
use Rattle.setting.specs.declared.Thresholds.{Thresholds}

-- the end z, from 0
abbrev pub end_of : Setting → ℕ → End
end_of v z = get_or (v.e0 ∷ v.e1 ∷ v.e2 ∷ v.e3 ∷ []) z v.e0

-- ---- which values a field may have

abbrev pub between : (low high x : ℕ) → Bool
between low high x = leb low x && leb x high

-- A field is a row: the offset of its first byte, whether it is in use, the least and the most that it may then be, and its value.
abbrev pub offset_of : Field → ℕ
offset_of f = f.0

abbrev pub in_use : Field → Bool
in_use f = f.1

abbrev pub least_of : Field → ℕ
least_of f = f.2

abbrev pub most_of : Field → ℕ
most_of f = f.3

abbrev pub value_of : Field → ℕ
value_of f = f.4

-- It is within its rule when its value lies between the two, or, not in use, is zero.
abbrev pub right : Field → Bool
right f = cond (in_use f) (between (least_of f) (most_of f) (value_of f)) (eqb (value_of f) 0)

-- 5: flags, bits 0 to 2; 6: confirm count M, 1 to 24; 8: reference power S, 1 to 50,000
abbrev pub head_fields : Setting → List Field
head_fields v = (5, true, 0, 7, v.flags) ∷ (6, true, 1, 24, v.confirm) ∷ (8, true, 1, 50000, v.power) ∷ []

-- 12 + 12z: V, 1 to 15,000; I, 1 to 50,000; group, 0 to 11, and 0 at end 0; filter, 0 or 1; ends from E on are all zero (§ The setting block 1)
abbrev pub end_fields : Setting → ℕ → List Field
end_fields v z =
    (12 + 12 * z, ltb z v.ends, 1, 15000, (end_of v z).voltage)
    ∷ (16 + 12 * z, ltb z v.ends, 1, 50000, (end_of v z).current)
    ∷ (20 + 12 * z, ltb z v.ends, 0, cond (eqb z 0) 0 11, (end_of v z).group)
    ∷ (21 + 12 * z, ltb z v.ends, 0, 1, (end_of v z).filter)
    ∷ []

-- 60: P, 100 to 2,500; 62: H, 2,500 to 30,000; 64, 66: m1 and m2, 10 to 150; 68: Q, 1,500 to 10,000; 70: second, 10 to 50; 72: fifth, 10 to 80
abbrev pub tail_fields : Thresholds → List Field
tail_fields t =
    (60, true, 100, 2500, t.basic)
    ∷ (62, true, 2500, 30000, t.high)
    ∷ (64, true, 10, 150, t.slope1)
    ∷ (66, true, 10, 150, t.slope2)
    ∷ (68, true, 1500, 10000, t.knee)
    ∷ (70, true, 10, 50, t.second)
    ∷ (72, true, 10, 80, t.fifth)
    ∷ []

-- 74: X, 200 to 4,000, at curve 0 zero; 76: the curve, 0 to 2
abbrev pub curve_fields : Overcurrent → List Field
curve_fields o = (74, not (eqb o.curve 0), 200, 4000, o.pickup) ∷ (76, true, 0, 2, o.curve) ∷ []

abbrev pub fields : Setting → List Field
fields v =
    head_fields v
    ++ (end_fields v 0 ++ (end_fields v 1 ++ (end_fields v 2 ++ (end_fields v 3 ++ (tail_fields v.thresholds ++ curve_fields v.overcurrent)))))

abbrev pub all_right : List Field → Bool
all_right fs = each right fs

-- ---- which field refusal 5 names (§ The setting block 4, § What the relay declines)

-- the lower of two offsets, of those that there are
abbrev pub lower : Option ℕ → Option ℕ → Option ℕ
lower None b = b
lower (Some x) None = Some x
lower (Some x) (Some y) = Some (min x y)

-- the offset of a field outside its rule
abbrev pub wrong_at : Field → Option ℕ
wrong_at f = cond (right f) None (Some (offset_of f))

-- the lowest offset of a field outside its rule, in whatever order the fields are listed
abbrev pub lowest : List Field → Option ℕ
lowest [] = None
lowest (f ∷ fs) = lower (wrong_at f) (lowest fs)

-- ---- the factors, and their limits

-- The exact factor of an end is k = 1351·V·I / (780·1000·S): its two terms (§ Matching 2).
abbrev pub factor_top : End → ℕ
factor_top e = 1351 * (e.voltage * e.current)

abbrev pub factor_under : Setting → ℕ
factor_under v = 780 * 1000 * v.power

-- K is 65,536·k to the nearest whole number
unfoldable pub factor : Setting → ℕ → ℤ
factor v z = nearest (pos (65536 * factor_top (end_of v z))) (factor_under v)

-- over the ends in use
abbrev pub factors : Setting → List ℤ
factors v = up_to v.ends (factor v)

-- a K above 1,048,576 (16)
unfoldable pub factor_high : Setting → Bool
factor_high v = not (each (λ k. le_z k (pos 1048576)) (factors v))

-- the second largest K below 32,768 (0.5): fewer than two factors reach it, equal ones counted separately
unfoldable pub factors_low : Setting → Bool
factors_low v = ltb (count_by (le_z (pos 32768)) (factors v)) 2

-- ---- the refusals of values, by their fields

-- 4 and 5
abbrev pub field_rows : List Field → Setting → List Row
field_rows fs v = (4 when not (between 2 4 v.ends)) ∷ (5 at lowest fs when not (all_right fs)) ∷ []

-- 6 and 7
abbrev pub factor_rows : Setting → List Row
factor_rows v = (6 when factor_high v) ∷ (7 when factors_low v) ∷ []

-- 4 to 7
unfoldable pub value_rows : List Field → Setting → List Row
value_rows fs v = field_rows fs v ++ factor_rows v

-- ---- what a block may hold

-- the setting writer, before 13: 4 to 7
abbrev pub store_rows : Setting → List Row
store_rows v = value_rows (fields v) v

-- a block may hold these values
abbrev pub storable : Setting → Bool
storable v = none_applies (store_rows v)

-- ---- what a relay can be started on (§ The setting block 6)

-- m2 less than m1
abbrev pub falling : Thresholds → Bool
falling t = ltb t.slope2 t.slope1

-- starting a fresh relay from setting values: 4, 5, 17, 6, 7
unfoldable pub start_rows : Setting → List Row
start_rows v = field_rows (fields v) v ++ ((17 when falling v.thresholds) ∷ factor_rows v)

-- a relay can be started on these values
abbrev pub startable : Setting → Bool
startable v = none_applies (start_rows v)
