-- `setting_block::writer::round_trip` meets its contract: proofs/RoundTrip.antt proves the two statements.
use Rattle.setting_block.proofs.RoundTrip.{read_write, write_read}
use Rattle.setting_block.proofs.writer.round_trip.Goals as goal

pub returns : goal.returns
returns c = (read_write, write_read)
