-- `line::add_line` meets its contract: the number, the answer's columns, the sum for the systems latched and the line's end, put one after the other.
use Rattle.std.proofs.Common.{rules, arith}
use Rattle.lists.specs.Lists.{up_to}
use Rattle.text.specs.Text.{ascii, decimal, field}
use Rattle.line.specs.Line.{line, AddsFew}
use Rattle.line.proofs.Few.{number_64, field_32, few_of, grown, few_then}
use Rattle.line.proofs.add_line.Goals as goal
use Rattle.line.proofs.add_line.Goals.{After-put_number, After-put_field}

first : (g : _) (c : After-put_number g) → AddsFew 20 (decimal c.args.number) c.args.text.now c.put_number.new.self
first g c = few_of c.put_number.ensures (number_64 c.args.number c.ranges.number.fits)

sum : (g : _) (c : After-put_field g) → AddsFew 11 (field c.latched.result) c.add_answer.new.text c.put_field.new.self
sum g c = few_of (rw c.from.ensures at c.put_field.ensures) (field_32 c.latched.result (search rules))

pub put_number-requires : goal.put_number-requires
put_number-requires g c = (search rules, omega (arith, number_64 c.args.number c.ranges.number.fits))

pub add_answer-requires : goal.add_answer-requires
add_answer-requires g c = let at = goal.at.add_answer-requires g c in (search rules, omega (arith, grown (first g at.After-put_number)))

pub put_field-requires : goal.put_field-requires
put_field-requires g c =
    let at = goal.at.put_field-requires g c in (
      search rules,
      rw c.from.ensures
          (omega (arith, field_32 c.latched.result (search rules), grown (first g at.After-put_number), grown c.add_answer.ensures)),
    )

pub put-requires : goal.put-requires
put-requires g c =
    let at = goal.at.put-requires g c in
    (search rules, omega (arith, grown (first g at.After-put_number), grown c.add_answer.ensures, grown (sum g at.After-put_field)))

pub returns : goal.returns
unfolding line ascii up_to
returns g c =
    let at = goal.at.returns g c in
    rw (← c.latched.ensures)
    (few_then {j = 20} {k = 47} (first g at.After-put_number)
    (few_then {j = 35} {k = 12} c.add_answer.ensures
    (few_then {j = 11} {k = 1} (sum g at.After-put_field) (few_of c.put.ensures (omega arith)))))
