-- `line::add_currents` meets its contract: three fields, put one after the other.
use Rattle.std.proofs.Common.{rules, arith}
use Rattle.text.specs.Text.{field}
use Rattle.line.specs.Line.{AddsFew}
use Rattle.line.proofs.Few.{field_32, few_of, grown, few_then}
use Rattle.line.proofs.add_currents.Goals as goal
use Rattle.line.proofs.add_currents.Goals.{After-put_field, After-put_field-2, After-put_field-3}

first : (g : _) (c : After-put_field g) → AddsFew 11 (field c.args.d1) c.args.text.now c.put_field.new.self
first g c = few_of (rw c.from.ensures at c.put_field.ensures) (field_32 c.args.d1 c.ranges.d1.fits)

second : (g : _) (c : After-put_field-2 g) → AddsFew 11 (field c.args.d2) c.put_field.new.self c.put_field-2.new.self
second g c = few_of (rw c.from-2.ensures at c.put_field-2.ensures) (field_32 c.args.d2 c.ranges.d2.fits)

third : (g : _) (c : After-put_field-3 g) → AddsFew 11 (field c.args.d3) c.put_field-2.new.self c.put_field-3.new.self
third g c = few_of (rw c.from-3.ensures at c.put_field-3.ensures) (field_32 c.args.d3 c.ranges.d3.fits)

pub put_field-requires : goal.put_field-requires
put_field-requires g c = (search rules, rw c.from.ensures (omega (arith, field_32 c.args.d1 c.ranges.d1.fits)))

pub put_field-requires-2 : goal.put_field-requires-2
put_field-requires-2 g c =
    let at = goal.at.put_field-requires-2 g c in
    (search rules, rw c.from-2.ensures (omega (arith, field_32 c.args.d2 c.ranges.d2.fits, grown (first g at.After-put_field))))

pub put_field-requires-3 : goal.put_field-requires-3
put_field-requires-3 g c =
    let at = goal.at.put_field-requires-3 g c in (
      search rules,
      rw c.from-3.ensures
          (omega (arith, field_32 c.args.d3 c.ranges.d3.fits, grown (first g at.After-put_field), grown (second g at.After-put_field-2))),
    )

pub returns : goal.returns
returns g c =
    let at = goal.at.returns g c in
    few_then {j = 11} {k = 22} (first g at.After-put_field)
    (few_then {j = 11} {k = 11} (second g at.After-put_field-2) (third g at.After-put_field-3))
