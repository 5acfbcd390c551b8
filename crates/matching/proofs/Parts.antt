-- The matched number in parts of 4053: one division for every group and filter, the half-unit law, and a bound on what K multiplies.
use mathlib.Core.Path.{◌≡◌, sym}
use mathlib.Core.Bool.{Bool, true, false}
use Prim.Native.Nat.{ℕ, ◌*◌, ◌<◌}
use native.Mathlib.Nat.{mul-le-mul_right}
use native.Mathlib.Omega.{arith}
use lib.Dec.{lit≤}
use lib.IntN.{ℤ, pos, ◌*ℤ◌, ◌-ℤ◌}
use Rattle.integer.specs.Within.{◌within◌}
use Rattle.integer.specs.Nearest.{nearest_away, Near}
use Rattle.integer.proofs.Reading.{ints}
use Rattle.integer.proofs.Laws.{literal_left, within-≤, within_is, times_within}
use Rattle.integer.proofs.HalfUnit.{nearest_away_near, nearest_away_times}
use Rattle.matching.specs.declared.Three.{Three}
use Rattle.matching.specs.Matching.{even, operated, matched}
use Rattle.matching.specs.Weights.{parts}
use Rattle.matching.specs.MatchingInput.{OperatedInput}
use Rattle.matching.proofs.Forms.{◌·◌, linear_parts, form_within}
use Rattle.matching.proofs.Rows.{matching, group_row}

-- a top m times, over m times as much
times_both : (m u : ℕ) (K t : ℤ) → 0 < m → 0 < u → nearest_away (K *ℤ t) (65536 * u) ≡ nearest_away (K *ℤ (pos m *ℤ t)) (m * (65536 * u))
times_both m u K t hm hu = sym (rw (literal_left m K t) (nearest_away_times m (K *ℤ t) (65536 * u) hm (omega arith)))

in_parts : (K : ℤ) (e f : Bool) (g : ℕ) (x : Three) →
    nearest_away (K *ℤ (operated e f g x).top) (65536 * (operated e f g x).under) ≡ nearest_away (K *ℤ parts (operated e f g x)) (65536 * 4053)
unfolding operated
in_parts K true false g x = times_both 4053 1 K _ (lit≤ tt) (lit≤ tt)
in_parts K true true g x = times_both 1351 3 K _ (lit≤ tt) (lit≤ tt)
in_parts K false true g x = times_both 3 1351 K _ (lit≤ tt) (lit≤ tt)
in_parts K false false g x = times_both 1 4053 K _ (lit≤ tt) (lit≤ tt)

pub matched_in_parts : (K : ℤ) (g : ℕ) (f : Bool) (x : Three) → matched K g f x ≡ nearest_away (K *ℤ parts (operated (even g) f g x)) (65536 * 4053)
unfolding matched
matched_in_parts K g f x = in_parts K (even g) f g x

-- ---- the half-unit law

near_both : (m u : ℕ) (K t : ℤ) → 0 < u → Near (nearest_away (K *ℤ t) (65536 * u)) (K *ℤ (pos m *ℤ t)) (m * (65536 * u))
near_both m u K t h =
    let b = 65536 * u in
    let x = nearest_away (K *ℤ t) b in
    let scaled : pos 2 *ℤ (pos (m * b) *ℤ x -ℤ K *ℤ (pos m *ℤ t)) ≡ pos m *ℤ (pos 2 *ℤ (pos b *ℤ x -ℤ K *ℤ t)) = simp ints (omega arith) in
    within_is scaled (times_within m (nearest_away_near (K *ℤ t) b (omega arith)))

near_parts : (K : ℤ) (e f : Bool) (g : ℕ) (x : Three) →
    Near (nearest_away (K *ℤ (operated e f g x).top) (65536 * (operated e f g x).under)) (K *ℤ parts (operated e f g x)) (65536 * 4053)
unfolding operated
near_parts K true false g x = near_both 4053 1 K (operated true false g x).top (lit≤ tt)
near_parts K true true g x = near_both 1351 3 K (operated true true g x).top (lit≤ tt)
near_parts K false true g x = near_both 3 1351 K (operated false true g x).top (lit≤ tt)
near_parts K false false g x = near_both 1 4053 K (operated false false g x).top (lit≤ tt)

pub matched_near : (K : ℤ) (g : ℕ) (f : Bool) (x : Three) → Near (matched K g f x) (K *ℤ parts (operated (even g) f g x)) (65536 * 4053)
unfolding matched
matched_near K g f x = near_parts K (even g) f g x

-- ---- sizes

-- the form of the matching at three numbers within b
pub small_form : {g : ℕ} (f : Bool) → g < 12 → {y : Three} {b : ℕ} → y.p within b → y.n within b → y.q within b →
    (matching g f · y) within (6031 * b)
small_form {g} f l {y} {b} h k m = within-≤ (form_within (matching g f) h k m) (mul-le-mul_right b (group_row g f l).small)

pub parts_within : {g : ℕ} {x : Three} → OperatedInput g x → (f : Bool) → parts (operated (even g) f g x) within (6031 * 32000)
parts_within {g} {x} s f = within_is ((linear_parts (even g) f g s.group).is x) (small_form f s.group s.own s.next s.before)
