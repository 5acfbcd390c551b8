-- The matched numbers by weights. What the matching makes of three samples, in parts of 4053, is the value of a linear form of them (`linear_parts` of
-- Forms.antt, for every group, with the filter on and off), and so is K times that: its coefficients are the three weights. So the number by weights
-- is the matched number. No coefficient is above 6031 parts, by which the code's products are bounded.
use mathlib.Core.Path.{◌≡◌, refl, sym, ap, ◌∙◌}
use mathlib.Core.Bool.{Bool, true, false, cond}
use mathlib.Core.List.{List}
use Prim.Native.Nat.{ℕ, zero, suc, ◌*◌, ◌<◌}
use native.Mathlib.Omega.{arith}
use borrow.Author.Tests.{ltb-true}
use lib.Dec.{T, ltb, lit≤}
use lib.IntN.{ℤ, pos, ◌+ℤ◌, ◌*ℤ◌}
use Rattle.integer.specs.Within.{◌within◌}
use Rattle.integer.specs.Nearest.{nearest_away, Near}
use Rattle.integer.proofs.Reading.{ints}
use Rattle.integer.proofs.Laws.{within-≤, within-+, within-*}
use Rattle.integer.proofs.HalfUnit.{nearest_away_near}
use Rattle.lists.specs.Lists.{up_to}
use Rattle.setting.specs.declared.Setting.{Setting}
use Rattle.setting.specs.Values.{end_of, factor, startable}
use Rattle.setting.specs.Limits.{factor_or0}
use Rattle.setting.proofs.LimitLaws.{startable_is}
use Rattle.systems.specs.declared.Systems.{Systems}
use Rattle.matching.specs.declared.Three.{Three}
use Rattle.matching.specs.Matching.{even, operated, matched}
use Rattle.matching.specs.Sets.{System, sys_a, sys_b, sys_c, from_next, seen, phases, filtered, matched_at, place_of, trio_at}
use Rattle.matching.specs.Weights.{parts, weight_of, weights_of, weighed, weighed_at, weighed_trio}
use Rattle.matching.specs.MatchingInput.{Most, WeighedInput, EndInput, SetInput}
use Rattle.matching.proofs.Forms.{◌·◌, form_of, linear_times, linear_parts}
use Rattle.matching.proofs.Rows.{matching, group_row}
use Rattle.matching.proofs.Parts.{matched_in_parts}

-- ---- the size of a number by weights

quotient_size : (a v : ℤ) → a within (3 * (1048576 * 6031 * 32000)) → Near v a (65536 * 4053) → v within 3000000
quotient_size a v = simp ints (omega arith)

pub weighed_within : {w x : Three} → WeighedInput w x → weighed w x within 3000000
unfolding weighed
weighed_within {w} {x} h =
    let k = h.weights in
    let s = h.samples in
    let a = w.p *ℤ x.p +ℤ w.n *ℤ x.n +ℤ w.q *ℤ x.q in
    quotient_size a (nearest_away a (65536 * 4053))
    (within-≤ (within-+ (within-+ (within-* k.own s.own) (within-* k.next s.next)) (within-* k.before s.before)) (omega arith))
    (nearest_away_near a (65536 * 4053) (lit≤ tt))

-- the samples as the next phase sees them
pub weighed_next : {w x : Three} → WeighedInput w x → WeighedInput w (from_next x)
weighed_next h = let s = h.samples in record { weights = h.weights; samples = record { own = s.next; next = s.before; before = s.own } }

-- ---- the number by weights is the matched number

weighed_is : (K : ℤ) (g : ℕ) → g < 12 → (f : Bool) (x : Three) → weighed (form_of (λ y. K *ℤ parts (operated (even g) f g y))) x ≡ matched K g f x
unfolding weighed ◌·◌
weighed_is K g h f x = sym (matched_in_parts K g f x ∙ ap (λ t. nearest_away t (65536 * 4053)) ((linear_times K (linear_parts (even g) f g h)).is x))

-- ---- the weights of an end

coefficients : {g : ℕ} (f : Bool) → g < 12 → Most 6031 (matching g f)
coefficients {g} f l =
    let h = (group_row g f l).small in
    record { own = record { size = omega arith }; next = record { size = omega arith }; before = record { size = omega arith } }

module _ (v : Setting) (start : T (startable v)) where
  pub factor_within : (z : ℕ) → factor_or0 v z within 1048576
  factor_within z = by (ltb z v.ends) refl
    where
      by : (b : Bool) → ltb z v.ends ≡ b → cond b (factor v z) (pos 0) within 1048576
      by true e = (startable_is v start).factor_within z (ltb-true z v.ends e)
      by false e = record { size = lit≤ tt }

  pub group_below : (z : ℕ) → z < 4 → (end_of v z).group < 12
  group_below z l = ((startable_is v start).bounded z l).group

  weights_within : (z : ℕ) → z < 4 → Most (1048576 * 6031) (form_of (weight_of v z))
  weights_within z l =
      let k = factor_within z in
      let m = coefficients (filtered (end_of v z)) (group_below z l) in
      record { own = within-* k m.own; next = within-* k m.next; before = within-* k m.before }

-- those of end z among the twelve
weights_of_lem : (v : Setting) {ws : List ℤ} → ws ≡ weights_of v → (z : ℕ) → z < 4 → phases ws z ≡ form_of (weight_of v z)
unfolding weights_of up_to
weights_of_lem v e zero l = rw e
weights_of_lem v e (suc zero) l = rw e
weights_of_lem v e (suc (suc zero)) l = rw e
weights_of_lem v e (suc (suc (suc zero))) l = rw e
weights_of_lem v e (suc (suc (suc (suc z)))) l = absurd (omega arith)

-- ---- a set

module _ {v : Setting} {ws xs : List ℤ} (a : SetInput v ws xs) (z : ℕ) (l : z < 4) where
  pub end_ready : EndInput v.ends ws z xs
  unfolding seen
  end_ready =
      record {
        below = l;
        twelve = a.twelve;
        used =
            λ h.
            record {
              weights = rw (weights_of_lem v a.weights z l) (weights_within v a.sound z l);
              samples = record { own = a.reach z h sys_a; next = a.reach z h sys_b; before = a.reach z h sys_c };
            };
      }

  weighed_place : (y : System) → weighed_at v.ends ws xs z y ≡ place_of v xs z y
  unfolding matched_at
  weighed_place y = by (ltb z v.ends) refl
    where
      by : (b : Bool) → ltb z v.ends ≡ b → cond b (weighed (phases ws z) (seen y (phases xs z))) (pos 0) ≡ cond b (matched_at v xs z y) (pos 0)
      by true e =
          let d = end_of v z in
          rw (weights_of_lem v a.weights z l, e)
          (weighed_is (factor v z) d.group (group_below v a.sound z l) (filtered d) (seen y (phases xs z)))
      by false e = refl

-- the trio of an end that is made by weights is the definition's
pub weighed_trio_lem : {v : Setting} {ws xs : List ℤ} → SetInput v ws xs → (z : ℕ) {r : Systems ℤ} → r ≡ weighed_trio v.ends ws xs z → z < 4 → r ≡ trio_at v xs z
unfolding weighed_trio trio_at
weighed_trio_lem a z e l = e ∙ rw (weighed_place a z l sys_a, weighed_place a z l sys_b, weighed_place a z l sys_c)
