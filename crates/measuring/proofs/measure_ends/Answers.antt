-- `measuring::measure_ends` meets its contract: each system's currents are those of the definitions, so what is read of them is; and so are the amplitudes
-- of the ends where they are asked for.
use native.Mathlib.Omega.{arith}
use Rattle.measuring.proofs.PartLaws.{currents_read}
use Rattle.measuring.proofs.EndLaws.{steps_ready, made_by_all, asked_are}
use Rattle.measuring.proofs.measure_ends.Goals as goal

pub amplitudes-amplitudes-requires : goal.amplitudes-amplitudes-requires
amplitudes-amplitudes-requires c = steps_ready _ c.taken.ensures 0 1 c.new-f.result.used (omega arith) (omega arith) (omega arith)

pub currents-requires-clause-made : goal.currents-requires-clause-made
currents-requires-clause-made c = made_by_all _ c.taken.ensures (omega arith) c.amplitudes-amplitudes.ensures

pub currents-requires-2-clause-made : goal.currents-requires-2-clause-made
currents-requires-2-clause-made c = made_by_all _ c.taken.ensures (omega arith) c.amplitudes-amplitudes.ensures

pub currents-requires-3-clause-made : goal.currents-requires-3-clause-made
currents-requires-3-clause-made c = made_by_all _ c.taken.ensures (omega arith) c.amplitudes-amplitudes.ensures

pub returns : goal.returns
returns c =
    let folds = c.new-f.ensures.parts in
    let ends = c.new-f.ensures.ends in
    let four = c.new-f.result.used.four in
    record {
      readings =
          c.readings_by.ensures c.args.win.now
          (currents_read folds 0 (omega arith) _ four ends c.currents.ensures)
          (currents_read folds 1 (omega arith) _ four ends c.currents-2.ensures)
          (currents_read folds 2 (omega arith) _ four ends c.currents-3.ensures);
      amplitudes = λ t z l. asked_are _ c.taken.ensures folds c.amplitudes-amplitudes.ensures four t z (rw ends l);
      small = c.amplitudes-amplitudes.ensures.small;
    }
