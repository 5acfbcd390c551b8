-- `amplitude::amplitude` meets its contract: c and s are small enough that the sum of their squares fits, and its root 32 bits.
use mathlib.Core.Path.{◌≡◌, refl, ◌∙◌}
use Prim.Native.Nat.{ℕ, ◌^◌, ◌≤◌, ◌<◌}
use native.Mathlib.Omega.{arith}
use lib.IntN.{ℤ}
use lib.Signed.{mag}
use mir.Syntax.{w32, w64}
use mir.Val.{hbits, to_z, of_z}
use Rattle.integer.specs.Nearest.{nearest_away}
use Rattle.integer.proofs.Machine.{back_ok, back_within}
use Rattle.integer.proofs.RootLaws.{root-≤}
use Rattle.amplitude.specs.Amplitude.{square}
use Rattle.amplitude.specs.Parts.{joined, of_sums, PairInput}
use Rattle.amplitude.proofs.amplitude.Goals as goal
use Rattle.amplitude.proofs.amplitude.Goals.{After-root}

small : (c : After-root) → c.root.result.root ≤ 32000000
small c = root-≤ 32000000 c.root.ensures.largest (omega (arith, c.squared-2.ensures.small, c.squared.ensures.small))

pub overflow_cast-result : goal.overflow_cast-result
overflow_cast-result c = record { fits = omega (arith, small (goal.at.overflow_cast-result c).After-root) }

-- a square, from the parts of its sum
square_from : {a b sum : ℤ} {r : ℕ} → PairInput a b → mag sum < 2 ^ hbits w64 → sum ≡ joined (to_z w32 (of_z w32 a)) (to_z w32 (of_z w32 b))
    → r ≡ square (nearest_away (to_z w64 (of_z w64 sum)) 9360) → r ≡ square (nearest_away (joined a b) 9360)
square_from {sum = sum} h ok j is =
    is ∙ rw (back_ok w64 sum ok, j, back_within h.low w32 refl, back_within h.high w32 refl)

pub returns : goal.returns
unfolding of_sums
returns c =
    let pre = c.requires in
    record {
      is =
          c.root.ensures.same
          ∙ rw (
            square_from pre.across c.joined.type_inv c.joined.ensures.is c.squared.ensures.is,
            square_from pre.up c.joined-2.type_inv c.joined-2.ensures.is c.squared-2.ensures.is,
          );
      small = small (goal.at.returns c).After-root;
    }
