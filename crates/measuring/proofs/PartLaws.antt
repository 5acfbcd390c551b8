-- A window in parts. A part is linear, so that of the sum over the ends is the sum of the ends' parts, and that of a difference their difference; and
-- the amplitudes come from the parts (`amplitude`, proofs/Parts.antt). So the currents by the parts of a window are those of the definitions.
use mathlib.Core.Path.{◌≡◌, refl, sym, ◌∙◌}
use mathlib.Core.Bool.{Bool, true, false, not, cond}
use mathlib.Core.List.{List, []}
use Prim.Native.Nat.{ℕ, zero, suc, ◌+◌, ◌*◌, ◌≤◌, ◌<◌}
use native.Mathlib.Decide.{ℕ_discrete}
use native.Mathlib.Omega.{arith}
use lib.Dec.{T, eqb, leb, ltb, leb→le, ltb→lt, nltb→le}
use lib.IntN.{ℤ, pos, neg_ℤ, ◌+ℤ◌, ◌*ℤ◌, ◌-ℤ◌, *ℤ_comm}
use lib.ListN.{get_or, set, length-set}
use lib.Seq.{get_or-set_same, get_or-set_other}
use mir.Syntax.{w32}
use mir.Val.{SFits, to_z, of_z}
use Rattle.integer.specs.Within.{◌within◌}
use Rattle.integer.specs.Sum.{sum}
use Rattle.integer.proofs.Reading.{ints}
use Rattle.integer.proofs.Laws.{within-≤, within--, nat_abs_neg, *ℤ-+ℤ}
use Rattle.integer.proofs.Machine.{fits, back_within}
use Rattle.integer.proofs.SumLaws.{sum_same, sum-+, sum--, sum_times, sum_next, sum_within_lem, weight, weighted}
use Rattle.lists.specs.Tests.{every}
use Rattle.lists.proofs.TestLaws.{every_at}
use Rattle.matching.specs.Sets.{System, index, system}
use Rattle.amplitude.specs.Amplitude.{amplitude}
use Rattle.amplitude.specs.Parts.{shares, share, part, joined, of_sums, PartsInput, OfParts}
use Rattle.amplitude.proofs.Parts.{first_by_parts, second_by_parts, fifth_by_parts}
use Rattle.characteristic.specs.declared.Currents.{Currents}
use Rattle.measuring.specs.Window.{at, series, sums, difference}
use Rattle.measuring.specs.Measuring.{sumℕ, twice_restraint, currents_of}
use Rattle.measuring.specs.WindowInput.{WindowInput}
use Rattle.measuring.specs.Folded.{column, combined, Folds, PartsLike, part_at, over_ends, first_by, twice_restraint_by, currents_with, currents_by}

-- ---- the parts as the machine adds them up over the ends

module _ {f : List ℤ} (z : PartsLike f) (p y : ℕ) where
  abbrev of : ℕ → ℤ
  of e = part_at f p e y

  pub part_read : (e : ℕ) {x : ℤ} → x ≡ of e → to_z w32 (of_z w32 x) ≡ of e
  part_read e h = rw h (back_within (z.small _) w32 refl)

  pub over_within : (n : ℕ) → n ≤ 4 → sum n of within 51200000
  over_within n l = within-≤ (sum_within_lem 12800000 n of (λ e h. z.small _)) (omega arith)

  pub between_within : (of 0 -ℤ of 1) within 51200000
  between_within = within-≤ (within-- (z.small _) (z.small _)) (omega arith)

  pub between_read : {x : ℤ} → x ≡ of 0 -ℤ of 1 → to_z w32 (of_z w32 x) ≡ of 0 -ℤ of 1
  between_read e = rw e (back_within between_within w32 refl)

  module _ (n : ℕ) (l : n ≤ 4) {s : ℤ} (e : s ≡ sum n of) where
    pub over_fits : SFits w32 s
    over_fits = rw e (fits (over_within n l) w32 refl)

    pub over_read : to_z w32 (of_z w32 s) ≡ sum n of
    over_read = rw e (back_within (over_within n l) w32 refl)

  -- the first two, and one more
  pub over_two : {x x' : ℤ} → x ≡ of 0 → x' ≡ of 1 → to_z w32 (of_z w32 x) +ℤ to_z w32 (of_z w32 x') ≡ sum 2 of
  unfolding sum
  over_two h h' = rw (part_read 0 h, part_read 1 h') (simp ints (omega arith))

  pub over_more : (n : ℕ) → n ≤ 4 → {s x : ℤ} → s ≡ sum n of → x ≡ of n → to_z w32 (of_z w32 s) +ℤ to_z w32 (of_z w32 x) ≡ sum (n + 1) of
  over_more n l e h = rw (over_read n l e, part_read n h, sum_next n of)

  -- what `over_ends` gives
  module _ (n : ℕ) (l : n ≤ 4) where
    pub ends_within : over_ends n f p y within 51200000
    unfolding over_ends
    ends_within = over_within n l

    pub ends_read : {x : ℤ} → x ≡ over_ends n f p y → to_z w32 (of_z w32 x) ≡ over_ends n f p y
    ends_read e = rw e (back_within ends_within w32 refl)

-- ---- the amplitude of four numbers, as the machine hands them over

pub minus_within : {x : ℤ} {n : ℕ} → x within n → neg_ℤ x within n
minus_within h = record { size = rw nat_abs_neg h.size }

-- 0 - x
pub minus_is : (x : ℤ) → pos 0 -ℤ x ≡ neg_ℤ x
minus_is x = simp ints (omega arith)

module _ {a b c d x y z w : ℤ} (ea : x ≡ a) (eb : y ≡ b) (ec : z ≡ c) (ed : w ≡ d) where
  pub handed : a within 51200000 → b within 51200000 → c within 51200000 → d within 51200000 → PartsInput x y z w
  handed ha hb hc hd =
      rw (ea, eb, ec, ed)
      (record {
        across = record { low = within-≤ ha (omega arith); high = within-≤ hb (omega arith) };
        up = record { low = within-≤ hc (omega arith); high = within-≤ hd (omega arith) };
      })

  pub handed_is : {r : ℕ} → OfParts x y z w r → (r ≡ of_sums (joined a b) (joined c d)) × (r ≤ 32000000)
  handed_is h = (h.is ∙ rw (ea, eb, ec, ed), h.small)

-- ---- a window folded, a store at a time: after 6·j + p of them, part p of number j is the next

-- the shares of a part make at most 16
rows_small : T (every 6 (λ p. leb (weight 12 (share p)) 16))
unfolding weight share
rows_small = tt

part_within : {win : List ℤ} → WindowInput win → (p : ℕ) → p < 6 → (i : ℕ) → part p (column win i) within 12800000
unfolding part
part_within {win} z p l i =
    within-≤ (weighted (share p) (column win i) 800000 12 (λ k h. z.small _))
    (omega (arith, leb→le (weight 12 (share p)) 16 (every_at 6 (λ p. leb (weight 12 (share p)) 16) rows_small p l)))

-- what holds after n stores
pub record Placed (win f : List ℤ) (n : ℕ) : Type 0 where
  pub like : PartsLike f
  pub is : (p j : ℕ) → p < 6 → j < 12 → 6 * j + p < n → get_or f (12 * p + j) (pos 0) ≡ part p (column win j)

pub placed_none : {win f : List ℤ} → PartsLike f → Placed win f 0
placed_none h = record { like = h; is = λ p j l k m. absurd (omega arith) }

-- what is stored: the sum with the shares of a part
pub row_part : (win : List ℤ) (p i : ℕ) → combined win (get_or shares p []) i ≡ part p (column win i)
unfolding combined part share
row_part win p i = refl

module _ {win : List ℤ} (z : WindowInput win) where
  pub placed_more : {f : List ℤ} {n : ℕ} (q at : ℕ) {i : ℕ} → Placed win f n → i < 12 → q < 6 → n ≡ 6 * i + q → at ≡ 12 * q + i → {x : ℤ}
      → x ≡ part q (column win i) → Placed win (set f at x) (n + 1)
  placed_more {f} {n} q at {i} h li lq turn place {x} e =
      record {
        like = record { long = simp length-set h.like.long; small = small };
        is = λ p j l k m. by p j l k (ltb (6 * j + p) n) (ltb→lt _ _) (nltb→le _ _) m;
      }
    where
      here : get_or (set f at x) at (pos 0) ≡ x
      here = get_or-set_same f at x (pos 0) (omega (arith, h.like.long, place))

      small : (k : ℕ) → get_or (set f at x) k (pos 0) within 12800000
      small k = of (ℕ_discrete k at)
        where
          of : Dec (k ≡ at) → get_or (set f at x) k (pos 0) within 12800000
          of (yes s) = rw (s, here, e) (part_within z q lq i)
          of (no n) = rw (get_or-set_other f at k x (pos 0) n) (h.like.small k)

      by : (p j : ℕ) → p < 6 → j < 12 → (t : Bool) → (T t → 6 * j + p < n) → (T (not t) → n ≤ 6 * j + p) → 6 * j + p < n + 1
          → get_or (set f at x) (12 * p + j) (pos 0) ≡ part p (column win j)
      by p j l k true early late m =
          let before = early tt in
          get_or-set_other f at (12 * p + j) x (pos 0) (λ same. absurd (omega (arith, before, turn, place, same))) ∙ h.is p j l k before
      by p j l k false early late m =
          let now = late tt in
          let part : p ≡ q = omega (arith, now, m, turn) in
          let number : j ≡ i = omega (arith, now, m, turn) in
          rw (part, number, ← place) (here ∙ e)

-- ---- a part is linear

module _ (p : ℕ) where
  part_plus : (u v : ℕ → ℤ) → part p (λ k. u k +ℤ v k) ≡ part p u +ℤ part p v
  unfolding part
  part_plus u v =
      sum_same (λ k. share p k *ℤ (u k +ℤ v k)) (λ k. share p k *ℤ u k +ℤ share p k *ℤ v k) 12 (λ k l. *ℤ-+ℤ (share p k) (u k) (v k))
      ∙ sum-+ (λ k. share p k *ℤ u k) (λ k. share p k *ℤ v k) 12

  part_minus : (u v : ℕ → ℤ) → part p (λ k. u k -ℤ v k) ≡ part p u -ℤ part p v
  unfolding part
  part_minus u v =
      sum_same (λ k. share p k *ℤ (u k -ℤ v k)) (λ k. share p k *ℤ u k -ℤ share p k *ℤ v k) 12 (λ k l. apart (share p k) (u k) (v k))
      ∙ sum-- (λ k. share p k *ℤ u k) (λ k. share p k *ℤ v k) 12
    where
      apart : (a x y : ℤ) → a *ℤ (x -ℤ y) ≡ a *ℤ x -ℤ a *ℤ y
      apart a x y = simp ints (omega arith)

  part_none : part p (λ k. pos 0) ≡ pos 0
  unfolding part
  part_none =
      sum_same (λ k. share p k *ℤ pos 0) (λ k. pos 0 *ℤ share p k) 12 (λ k l. *ℤ_comm (share p k) (pos 0))
      ∙ sum_times (pos 0) (share p) 12
      ∙ none (sum 12 (share p))
    where
      none : (x : ℤ) → pos 0 *ℤ x ≡ pos 0
      none x = simp ints (omega arith)

  part_sum : (a : ℕ → ℕ → ℤ) (n : ℕ) → sum n (λ z. part p (a z)) ≡ part p (λ k. sum n (λ z. a z k))
  unfolding sum
  part_sum a zero = sym part_none
  part_sum a (suc n) = rw (part_sum a n) (sym (part_plus (λ k. sum n (λ z. a z k)) (a n)))

-- ---- the currents by the parts of a window

pub restraint_is : (E : ℕ) (win : List ℤ) (l : System) →
    twice_restraint E win l ≡ cond (eqb E 2) (amplitude 1 (difference win l)) (sumℕ E (λ z. amplitude 1 (series win z l)))
unfolding twice_restraint
restraint_is E win l = refl

index_system : (y : ℕ) → y < 3 → index (system y) ≡ y
index_system zero h = refl
index_system (suc zero) h = refl
index_system (suc (suc zero)) h = refl
index_system (suc (suc (suc y))) h = absurd (omega arith)

module _ {win f : List ℤ} (h : Folds win f) (y : ℕ) (l : y < 3) where
  -- a part of an end is that of its series
  of_end : (p z : ℕ) → p < 6 → z < 4 → part_at f p z y ≡ part p (series win z (system y))
  unfolding part
  of_end p z lp lz = h.is p (3 * z + y) lp (omega arith) ∙ rw (index_system y l)

  -- that of the sum over the ends
  of_sums_lem : (E : ℕ) → E ≤ 4 → (p : ℕ) → p < 6 → over_ends E f p y ≡ part p (sums E win (system y))
  unfolding over_ends
  of_sums_lem E four p lp =
      sum_same (λ z. part_at f p z y) (λ z. part p (series win z (system y))) E (λ z i. of_end p z lp (omega arith))
      ∙ part_sum p (λ z. series win z (system y)) E

  -- that of a difference
  of_difference : (p : ℕ) → p < 6 → part_at f p 0 y -ℤ part_at f p 1 y ≡ part p (difference win (system y))
  of_difference p lp =
      rw (of_end p 0 lp (omega arith), of_end p 1 lp (omega arith)) (sym (part_minus p (series win 0 (system y)) (series win 1 (system y))))

  -- so are the amplitudes
  pub first_at : (z : ℕ) → z < 4 → first_by (λ p. part_at f p z y) ≡ amplitude 1 (series win z (system y))
  first_at z lz =
      rw (of_end 0 z (omega arith) lz, of_end 1 z (omega arith) lz, of_end 2 z (omega arith) lz, of_end 3 z (omega arith) lz)
      (sym (first_by_parts (series win z (system y))))

  over : (E : ℕ) → E ≤ 4 → (n : ℕ) → n ≤ E → sumℕ n (λ z. first_by (λ p. part_at f p z y)) ≡ sumℕ n (λ z. amplitude 1 (series win z (system y)))
  over E four zero m = refl
  over E four (suc n) m = rw (over E four n (omega arith), first_at n (omega arith))

  module _ (E : ℕ) (four : E ≤ 4) where
    twice_restraint_is : twice_restraint_by E f y ≡ twice_restraint E win (system y)
    unfolding twice_restraint_by
    twice_restraint_is =
        rw (
          restraint_is E win (system y),
          of_difference 0 (omega arith),
          of_difference 1 (omega arith),
          of_difference 2 (omega arith),
          of_difference 3 (omega arith),
          over E four E (omega arith),
          ← (first_by_parts (difference win (system y))),
        )

    pub currents_are : currents_by E f y ≡ currents_of E win (system y)
    unfolding currents_with currents_of
    currents_are =
        let u = sums E win (system y) in
        rw (
          of_sums_lem E four 0 (omega arith),
          of_sums_lem E four 1 (omega arith),
          of_sums_lem E four 2 (omega arith),
          of_sums_lem E four 3 (omega arith),
          of_sums_lem E four 4 (omega arith),
          of_sums_lem E four 5 (omega arith),
          twice_restraint_is,
          first_by_parts u,
          second_by_parts u,
          fifth_by_parts u,
        )

    pub currents_read : {n : ℕ} {c : Currents} → E ≡ n → c ≡ currents_by E f y → c ≡ currents_of n win (system y)
    currents_read e h = h ∙ currents_are ∙ rw e
