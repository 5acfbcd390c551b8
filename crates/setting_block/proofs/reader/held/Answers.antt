-- `setting_block::reader::held` meets its contract: proofs/RoundTrip.antt proves the statements.
use Rattle.setting_block.proofs.RoundTrip.{read_held, held_read, fallen_read}
use Rattle.setting_block.proofs.reader.held.Goals as goal

pub returns : goal.returns
returns c = (read_held, held_read, fallen_read)
