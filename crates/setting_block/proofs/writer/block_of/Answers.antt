-- `setting_block::writer::block_of` meets its contract: the pieces, put one after the other into a block of zeros, are the header, and zeros are left after it.
-- The bytes of a number are those that `bytes_16` and `bytes_32` ensure.
use mathlib.Core.Path.{◌∙◌}
use Rattle.setting_block.specs.Layout.{header}
use Rattle.setting_block.proofs.WriterCases.{◌then◌, header_sealed}
use Rattle.setting_block.proofs.writer.block_of.Goals as goal

-- the pieces are the header
pub returns : goal.returns
unfolding header
returns c =
    c.seal.ensures
    ∙ header_sealed
    c.args.v
    (c.put.ensures
    then c.put-2.ensures
    then (rw c.bytes_32.ensures at c.put-3.ensures)
    then c.put_end.ensures
    then c.put_end-2.ensures
    then c.put_end-3.ensures
    then c.put_end-4.ensures
    then (rw c.bytes_16.ensures at c.put-4.ensures)
    then (rw c.bytes_16-2.ensures at c.put-5.ensures)
    then (rw c.bytes_16-3.ensures at c.put-6.ensures)
    then (rw c.bytes_16-4.ensures at c.put-7.ensures)
    then (rw c.bytes_16-5.ensures at c.put-8.ensures)
    then (rw c.bytes_16-6.ensures at c.put-9.ensures)
    then (rw c.bytes_16-7.ensures at c.put-10.ensures)
    then (rw c.bytes_16-8.ensures at c.put-11.ensures)
    then c.put-12.ensures)
