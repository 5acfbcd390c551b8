-- `measuring::started` meets its contract, by those of its callees.
use mathlib.Core.Path.{ap, ◌∙◌}
use native.Mathlib.Omega.{arith}
use Rattle.characteristic.specs.declared.Currents.{Currents}
use Rattle.characteristic.specs.Characteristic.{starts}
use Rattle.measuring.specs.Measuring.{currents_of}
use Rattle.measuring.proofs.PartLaws.{currents_read}
use Rattle.measuring.proofs.EndLaws.{steps_ready, made_by_one}
use Rattle.measuring.proofs.started.Goals as goal

pub amplitudes-a-requires : goal.amplitudes-a-requires
amplitudes-a-requires c = steps_ready _ c.taken.ensures _ 3 c.new-f.result.used (omega (arith, c.requires.system)) (omega arith) (omega arith)

pub currents-requires-clause-made : goal.currents-requires-clause-made
currents-requires-clause-made c = made_by_one _ c.taken.ensures c.requires.system c.amplitudes-a.ensures

pub returns : goal.returns
unfolding currents_of
returns c =
    let v = c.args.v in
    let are = currents_read c.new-f.ensures.parts _ c.requires.system _ c.new-f.result.used.four c.new-f.ensures.ends c.currents.ensures in
    c.starts.ensures ∙ ap (λ (cur : Currents). starts v cur.d cur.r) are
