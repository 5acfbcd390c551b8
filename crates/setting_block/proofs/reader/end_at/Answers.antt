-- `setting_block::reader::end_at` meets its contract: the two numbers are what `u32_at` ensures, the two bytes are read.
use Rattle.setting_block.proofs.reader.end_at.Goals as goal

pub returns : goal.returns
returns c = rw (c.u32_at.ensures, c.u32_at-2.ensures)
