-- `measuring::Folded::twice_restraint` meets its contract. With two ends it is one amplitude, with three or four the sum of four places, each at most
-- 32,000,000.
use mathlib.Core.Path.{◌∙◌}
use Prim.Native.Nat.{◌≤◌}
use native.Mathlib.Omega.{arith}
use Rattle.measuring.specs.Folded.{twice_restraint_by}
use Rattle.measuring.proofs.PartLaws.{between_read, handed_is}
use Rattle.measuring.proofs.EndLaws.{restraint_by_ends}
use Rattle.measuring.proofs.Folded.twice_restraint.Goals as goal

pub returns-then-self-eq2 : goal.returns-then-self-eq2
unfolding twice_restraint_by
returns-then-self-eq2 c =
    let like = c.args.self.now.like in
    (handed_is (between_read like 0 _ c.between.ensures) (between_read like 1 _ c.between-then-self-eq2.ensures)
    (between_read like 2 _ c.between-then-self-eq2-2.ensures) (between_read like 3 _ c.between-then-self-eq2-3.ensures) c.amplitude.ensures).0
    ∙ rw c.if-self-eq2.true

pub returns : goal.returns
returns c =
    let used = c.args.self.now.used in
    let three : 3 ≤ c.args.self.now.ends = omega (arith, used.two, c.if-self-eq2.false) in
    restraint_by_ends (c.requires.made three) three used.four
