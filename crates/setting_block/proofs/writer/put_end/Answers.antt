-- `setting_block::writer::put_end` meets its contract: the pieces are put one after the other, and the bytes of a number are those that `bytes_32` ensures.
use Rattle.setting_block.proofs.WriterCases.{◌then◌}
use Rattle.setting_block.proofs.writer.put_end.Goals as goal

pub returns : goal.returns
returns c =
    let voltage = rw c.bytes_32.ensures at c.put.ensures in
    let current = rw c.bytes_32-2.ensures at c.put-2.ensures in
    voltage then current then c.put-3.ensures
