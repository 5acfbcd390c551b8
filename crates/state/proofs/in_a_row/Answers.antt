-- `state::in_a_row` states what RowLaws proves.
use Rattle.state.proofs.RowLaws.{latched_in_a_row, counted_in_a_row}
use Rattle.state.proofs.in_a_row.Goals as goal

pub returns : goal.returns
returns c = (latched_in_a_row, counted_in_a_row)
