-- Past 2Q the third section adds m2 where the second section's line adds m1, from the same height at 2Q: where m2 is not less than m1, it lies no lower.
-- Where m2 is less, it lies 200 lower at R = 2Q + 200, or more, and there is a multiple of 200 between the two.
use mathlib.Core.Path.{◌≡◌, refl, sym, ◌∙◌}
use mathlib.Core.Bool.{true}
use Prim.Native.Nat.{ℕ, ◌+◌, ◌*◌, ◌-◌, ◌/◌, ◌≤◌, ◌<◌}
use native.Mathlib.Nat.{le_refl, mul-le-mul}
use native.Mathlib.Omega.{arith}
use lib.Dec.{T, ltb→lt}
use borrow.Author.Tests.{lt-ltb, ltb-true}
use Rattle.setting.specs.declared.Setting.{Setting}
use Rattle.setting.specs.declared.Thresholds.{Thresholds}
use Rattle.setting.specs.Values.{storable, falling}
use Rattle.setting.specs.Worked.{plain, fallen}
use Rattle.setting.specs.Verdicts.{fallen_held, fallen_declined}
use Rattle.setting.proofs.SlopeLaws.{slopes_rise}
use Rattle.setting.proofs.LimitLaws.{storable_is, startable_is}
use Rattle.characteristic.specs.Characteristic.{starts}
use Rattle.characteristic.specs.Slopes.{second_line, NotMoreEager, FallingEager, FallenEager}
use Rattle.characteristic.proofs.Sections.{third_line, in_third}

-- ---- a line of slope m1 from P, and one that goes on with m2 at Q2

module _ (P Q2 m1 m2 R : ℕ) (early : P ≤ Q2) (late : Q2 < R) (rise : m1 ≤ m2) where
  -- the way from P to R, by Q2
  way : R - P ≡ (Q2 - P) + (R - Q2)
  way = omega arith

  no_higher : 200 * P + m1 * (R - P) ≤ 200 * P + m1 * (Q2 - P) + m2 * (R - Q2)
  no_higher = rw way (omega (arith, mul-le-mul rise (le_refl (R - Q2))))

pub not_more_eager : NotMoreEager
unfolding NotMoreEager
not_more_eager v s D R late e =
    let t = v.thresholds in
    let k = startable_is v s in
    let early : t.basic ≤ 2 * t.knee = omega (arith, k.basic.most, k.knee.least) in
    let past = ltb-true (third_line t R) (200 * D) (sym (in_third v D R (omega arith) late) ∙ e) in
    omega (arith, no_higher t.basic (2 * t.knee) t.slope1 t.slope2 R early late (slopes_rise v s), past)

-- ---- 200 past 2Q, where slopes fall

module _ (v : Setting) (ok : T (storable v)) (fall : T (falling v.thresholds)) where
  abbrev t : Thresholds
  t = v.thresholds

  abbrev there : ℕ
  there = 2 * t.knee + 200

  -- one more than the third section's line there, in 200ths
  abbrev just_past : ℕ
  just_past = third_line t there / 200 + 1

  early : t.basic ≤ 2 * t.knee
  early = let k = storable_is v ok in omega (arith, k.basic.most, k.knee.least)

  line_past : third_line t there < 200 * just_past
  line_past = omega arith

  starts_past : starts v just_past there ≡ true
  starts_past = in_third v just_past there (omega (arith, early)) (omega arith) ∙ lt-ltb (third_line t there) (200 * just_past) line_past

  below_second : 200 * just_past ≤ second_line t there
  below_second =
      let less : t.slope2 < t.slope1 = ltb→lt t.slope2 t.slope1 fall in
      let far : there - t.basic ≡ (2 * t.knee - t.basic) + 200 = omega (arith, early) in
      let rest : there - 2 * t.knee ≡ 200 = omega arith in
      rw (far, rest) (omega arith)

pub falling_eager : FallingEager
unfolding FallingEager
falling_eager v ok fall =
    record {
      D = just_past v ok fall;
      R = there v ok fall;
      heavy = omega arith;
      started = starts_past v ok fall;
      not_above = below_second v ok fall;
    }

pub fallen_eager : FallenEager
unfolding FallenEager plain fallen starts
fallen_eager = (fallen_held, fallen_declined, refl, refl)
