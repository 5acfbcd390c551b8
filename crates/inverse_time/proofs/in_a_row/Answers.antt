-- `in_a_row` states what RowLaws proves.
use Rattle.inverse_time.proofs.RowLaws.{summed_in_a_row, tripped_in_a_row}
use Rattle.inverse_time.proofs.in_a_row.Goals as goal

pub returns : goal.returns
returns c = (summed_in_a_row, tripped_in_a_row)
