-- A system fed from one end starts exactly where D is above P; with slopes of 200 percent and more it would be blind (OneEndLaws.antt has the sections).
use mathlib.Core.Path.{sym, ◌∙◌}
use mathlib.Core.Bool.{false≢true}
use Prim.Native.Nat.{◌*◌, ◌-◌, ◌≤◌}
use native.Mathlib.Nat.{le_refl, mul-le-mul}
use native.Mathlib.Omega.{arith}
use borrow.Author.Tests.{le-ltb}
use Rattle.characteristic.specs.Slopes.{second_line}
use Rattle.characteristic.specs.OneEnd.{StartsAboveP, BlindBySlope1, BlindBySlope2}
use Rattle.characteristic.proofs.Sections.{third_line, in_second, in_third}
use Rattle.characteristic.proofs.OneEndLaws.{starts_above, unless_above}

pub starts_above_P : StartsAboveP
unfolding StartsAboveP
starts_above_P v s D R within = (
  (λ started. unless_above v D R (λ no. absurd (false≢true (sym no ∙ started))) (λ above. above)),
  (λ above. starts_above v s D R above within),
)

-- ---- slopes of 200 percent and more

pub blind_by_slope_1 : BlindBySlope1
unfolding BlindBySlope1
blind_by_slope_1 v steep D under =
    let t = v.thresholds in
    unless_above v D D (λ no. no)
    (λ above. in_second v D D above under ∙ le-ltb (second_line t D) (200 * D) (omega (arith, mul-le-mul steep (le_refl (D - t.basic)))))

pub blind_by_slope_2 : BlindBySlope2
unfolding BlindBySlope2
blind_by_slope_2 v steep D far =
    let t = v.thresholds in
    let more : 201 ≤ t.slope2 = omega (arith, steep) in
    unless_above v D D (λ no. no)
    (λ above.
    in_third v D D above (omega arith) ∙ le-ltb (third_line t D) (200 * D) (omega (arith, mul-le-mul more (le_refl (D - 2 * t.knee)))))
