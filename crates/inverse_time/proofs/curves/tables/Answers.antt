-- `curves::tables` states what CurveLaws proves.
use Rattle.inverse_time.proofs.CurveLaws.{entry_least, by_standard}
use Rattle.inverse_time.proofs.curves.tables.Goals as goal

pub returns : goal.returns
returns c = (entry_least, by_standard)
