-- `amplitude::squared` meets its contract: the sum is one that `nearest_away` takes, and the square of the quotient fits.
use mathlib.Core.Path.{◌≡◌, refl, ap, ◌∙◌}
use Prim.Native.Nat.{◌*◌, ◌≤◌}
use native.Mathlib.Omega.{arith}
use mir.Syntax.{w64}
use mir.Val.{to_z, of_z}
use Rattle.integer.specs.Nearest.{nearest_away}
use Rattle.integer.proofs.Laws.{within-≤, within_is}
use Rattle.integer.proofs.Machine.{back, back_ok, back_within}
use Rattle.amplitude.specs.Amplitude.{square}
use Rattle.amplitude.proofs.Bounds.{quotient_within, square_is, square-≤}
use Rattle.amplitude.proofs.squared.Goals as goal
use Rattle.amplitude.proofs.squared.Goals.{After-nearest_away-x}

pub nearest_away-x-requires : goal.nearest_away-x-requires
nearest_away-x-requires c =
    rw (back_within c.requires.small w64 refl) (record { top = within-≤ c.requires.small (omega arith); some = omega arith; few = omega arith })

-- the quotient
x_is : (c : After-nearest_away-x) → to_z w64 (of_z w64 c.nearest_away-x.result) ≡ nearest_away c.args.sum 9360
x_is c = back_ok w64 c.nearest_away-x.result c.nearest_away-x.type_inv ∙ c.nearest_away-x.ensures ∙ rw (back_within c.requires.small w64 refl)

small : (c : After-nearest_away-x) → square (to_z w64 (of_z w64 c.nearest_away-x.result)) ≤ 16000000 * 16000000
small c = square-≤ {c = 16000000} (within_is (x_is c) (within-≤ (quotient_within _ _ c.requires.small) (omega arith)))

pub overflow_mul-result : goal.overflow_mul-result
overflow_mul-result c = rw square_is (record { sfits = omega (arith, small c) })

pub overflow_cast-result : goal.overflow_cast-result
overflow_cast-result c = rw (back (overflow_mul-result c), square_is) (tt, record { fits = omega (arith, small c) })

pub returns : goal.returns
returns c = rw (back (overflow_mul-result c), square_is) (record { is = ap square (x_is c); small = small c })
