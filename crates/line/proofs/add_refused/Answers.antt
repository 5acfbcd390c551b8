-- `line::add_refused` meets its contract: the word, the number and the line's end, put one after the other.
use Rattle.std.proofs.Common.{rules, arith}
use Rattle.lists.specs.Lists.{up_to}
use Rattle.text.specs.Text.{ascii, field}
use Rattle.line.specs.Line.{refused, AddsFew}
use Rattle.line.proofs.Few.{field_8, few_of, grown, few_then}
use Rattle.line.proofs.add_refused.Goals as goal
use Rattle.line.proofs.add_refused.Goals.{After-put, After-put_field}

word : (g : _) (c : After-put g) → AddsFew 7 (ascii "refused") c.args.text.now c.put.new.self
unfolding ascii up_to
word g c = few_of c.put.ensures (omega arith)

number : (g : _) (c : After-put_field g) → AddsFew 4 (field c.from-number.result) c.put.new.self c.put_field.new.self
number g c = few_of (rw c.from.ensures at c.put_field.ensures) (field_8 c.from-number.result (search rules))

pub put_field-requires : goal.put_field-requires
put_field-requires g c =
    let at = goal.at.put_field-requires g c in
    (search rules, rw c.from.ensures (omega (arith, field_8 c.from-number.result (search rules), grown (word g at.After-put))))

pub put-requires-2 : goal.put-requires-2
put-requires-2 g c =
    let at = goal.at.put-requires-2 g c in
    (search rules, omega (arith, grown (word g at.After-put), grown (number g at.After-put_field)))

pub returns : goal.returns
unfolding refused ascii up_to
returns g c =
    let at = goal.at.returns g c in
    rw (← c.from-number.ensures)
    (few_then {j = 7} {k = 5} (word g at.After-put)
    (few_then {j = 4} {k = 1} (number g at.After-put_field) (few_of c.put-2.ensures (omega arith))))
