-- `measuring::Folded::amplitudes` meets its contract. The loop's invariant: i is some steps from the first, and the places stepped on before it hold their
-- amplitudes.
use Prim.Native.Nat.{◌+◌}
use native.Mathlib.Omega.{arith}
use Rattle.measuring.proofs.EndLaws.{amplitudes_more, amplitudes_all}
use Rattle.measuring.proofs.Folded.amplitudes.Goals as goal

pub loop-i-preserved : goal.loop-i-preserved
loop-i-preserved c =
    let (t, (steps, so_far)) = c.loop-i.invariant in
    (t + 1, (omega arith, amplitudes_more so_far t steps c.loop-i-test.true c.requires.within c.amplitude.ensures))

pub returns-2 : goal.returns-2
returns-2 c =
    let (t, (steps, so_far)) = c.loop-i.invariant in
    amplitudes_all (amplitudes_more so_far t steps c.loop-i-test.true c.requires.within c.amplitude.ensures) (omega arith)

pub returns : goal.returns
returns c = amplitudes_all c.loop-i.invariant.1.1 c.loop-i-test.false
