-- `matching::operation` meets its contract: in each arm the group is a number, at which the definition computes.
use mathlib.Core.Path.{◌≡◌, refl, sym}
use Prim.Native.Nat.{ℕ, ◌^◌, ◌≤◌}
use native.Mathlib.Omega.{arith}
use lib.IntN.{ℤ, pos, neg_ℤ, ◌-ℤ◌}
use lib.ListN.{get_or-eq_default}
use mir.Syntax.{w64}
use mir.Val.{SFits}
use Rattle.integer.specs.Within.{◌within◌}
use Rattle.matching.specs.Matching.{operation}
use Rattle.matching.proofs.Bits.{kept, given, fits, read, minus, negated}
use Rattle.matching.proofs.operation.Goals as goal

-- what an arm may be: a number, the difference of two, a number negated

module _ (a : ℤ) (h : a within 2 ^ 20) where
  alone : kept a ≡ a
  alone = read (given h refl)

  negated_fits : SFits w64 (pos 0 -ℤ kept a)
  negated_fits = fits (negated (given h refl))

  negated_is : kept (pos 0 -ℤ kept a) ≡ neg_ℤ a
  negated_is = read (negated (given h refl))

  module _ (b : ℤ) (k : b within 2 ^ 20) where
    minus_fits : SFits w64 (kept a -ℤ kept b)
    minus_fits = fits (minus (given h refl) (given k refl) refl)

    minus_is : kept (kept a -ℤ kept b) ≡ a -ℤ b
    minus_is = read (minus (given h refl) (given k refl) refl)

ruleset arms = (alone, negated_fits, negated_is, minus_fits, minus_is)

beyond : (g : ℕ) (p n q : ℤ) → 12 ≤ g → operation g p n q ≡ pos 0
unfolding operation
beyond g p n q h = rw get_or-eq_default

pub returns-in-0 : goal.returns-in-0
unfolding operation
returns-in-0 c = rw c.in-0.is (search (arms, c.requires))

pub returns-in-1 : goal.returns-in-1
unfolding operation
returns-in-1 c = rw c.in-1.is (search (arms, c.requires))

pub returns-in-2 : goal.returns-in-2
unfolding operation
returns-in-2 c = rw c.in-2.is (search (arms, c.requires))

pub returns-in-3 : goal.returns-in-3
unfolding operation
returns-in-3 c = rw c.in-3.is (search (arms, c.requires))

pub returns-in-4 : goal.returns-in-4
unfolding operation
returns-in-4 c = rw c.in-4.is (search (arms, c.requires))

pub returns-in-5 : goal.returns-in-5
unfolding operation
returns-in-5 c = rw c.in-5.is (search (arms, c.requires))

pub returns-in-6 : goal.returns-in-6
unfolding operation
returns-in-6 c = rw c.in-6.is (search (arms, c.requires))

pub returns-in-7 : goal.returns-in-7
unfolding operation
returns-in-7 c = rw c.in-7.is (search (arms, c.requires))

pub returns-in-8 : goal.returns-in-8
unfolding operation
returns-in-8 c = rw c.in-8.is (search (arms, c.requires))

pub returns-in-9 : goal.returns-in-9
unfolding operation
returns-in-9 c = rw c.in-9.is (search (arms, c.requires))

pub returns-in-10 : goal.returns-in-10
unfolding operation
returns-in-10 c = rw c.in-10.is (search (arms, c.requires))

pub returns-in-11 : goal.returns-in-11
unfolding operation
returns-in-11 c = rw c.in-11.is (search (arms, c.requires))

pub returns-in_default : goal.returns-in_default
returns-in_default c = sym (beyond c.args.g c.args.x.p c.args.x.n c.args.x.q (omega arith))
