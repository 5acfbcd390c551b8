-- A section asks for 200·P and slopes times what R has beyond P; and 200·D has 200 times what D has beyond P. So with both slopes below 200 percent a D that
-- is no less than R wins wherever it is above P; and with one of 200 or more it loses against R = D.
use mathlib.Core.Path.{◌≡◌, refl, ◌∙◌}
use mathlib.Core.Bool.{Bool, true, false}
use Prim.Native.Nat.{ℕ, ◌*◌, ◌-◌, ◌≤◌, ◌<◌}
use native.Mathlib.Nat.{le_refl, mul-le-mul}
use native.Mathlib.Omega.{arith}
use lib.Dec.{T, leb}
use borrow.Author.Tests.{leb-true, leb-false, lt-ltb}
use Rattle.setting.specs.declared.Setting.{Setting}
use Rattle.setting.specs.declared.Thresholds.{Thresholds}
use Rattle.setting.specs.Values.{startable}
use Rattle.setting.proofs.LimitLaws.{startable_is}
use Rattle.characteristic.specs.Characteristic.{starts}
use Rattle.characteristic.specs.Slopes.{second_line}
use Rattle.characteristic.proofs.Bound.{starts_no}
use Rattle.characteristic.proofs.Sections.{third_line, in_first, in_second, in_third}

-- ---- slopes of at most 150 percent, D above P and no less than R

module _ (v : Setting) (s : T (startable v)) (D R : ℕ) (above : v.thresholds.basic < D) (within : R ≤ D) where
  abbrev t : Thresholds
  t = v.thresholds

  above_second : t.basic < R → second_line t R < 200 * D
  above_second past = omega (arith, mul-le-mul (startable_is v s).slope1.most (le_refl (R - t.basic)))

  above_third : 2 * t.knee < R → third_line t R < 200 * D
  above_third late =
      let k = startable_is v s in
      omega (
        arith,
        k.basic.most,
        k.knee.least,
        mul-le-mul k.slope1.most (le_refl (2 * t.knee - t.basic)),
        mul-le-mul k.slope2.most (le_refl (R - 2 * t.knee)),
      )

  pub starts_above : starts v D R ≡ true
  starts_above = by (leb R t.basic) (leb R (2 * t.knee)) refl refl
    where
      by : (low under : Bool) → leb R t.basic ≡ low → leb R (2 * t.knee) ≡ under → starts v D R ≡ true
      by true true l u = in_first v D R (leb-true R t.basic l) (leb-true R (2 * t.knee) u) ∙ lt-ltb t.basic D above
      by false true l u =
          let past = leb-false R t.basic l in
          in_second v D R past (leb-true R (2 * t.knee) u) ∙ lt-ltb (second_line t R) (200 * D) (above_second past)
      by low false l u =
          let late = leb-false R (2 * t.knee) u in
          let k = startable_is v s in
          in_third v D R (omega (arith, k.basic.most, k.knee.least)) late ∙ lt-ltb (third_line t R) (200 * D) (above_third late)

-- ---- D up to P, which never starts

pub unless_above : {A : Type 0} (v : Setting) (D R : ℕ) → (starts v D R ≡ false → A) → (v.thresholds.basic < D → A) → A
unless_above {A = A} v D R idle over = by (leb D v.thresholds.basic) refl
  where
    by : (b : Bool) → leb D v.thresholds.basic ≡ b → A
    by true low = idle (starts_no v D R (leb-true D v.thresholds.basic low))
    by false past = over (leb-false D v.thresholds.basic past)
