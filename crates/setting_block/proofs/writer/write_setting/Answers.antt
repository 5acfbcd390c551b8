-- `setting_block::writer::write_setting` meets its contract: each return is one of the writer's cases, by the verdict and the room.
use native.Mathlib.Omega.{arith}
use Rattle.refusal.proofs.Stops.{told_up}
use Rattle.setting_block.proofs.WriterCases.{not_sound, no_room, written}
use Rattle.setting_block.proofs.writer.write_setting.Goals as goal

pub returns-in_err-verdict : goal.returns-in_err-verdict
returns-in_err-verdict c =
    not_sound _ _ c.from_residual.result _ (told_up c.from_residual.result _ c.from_residual.ensures.1) (rw c.in_err-verdict.was at c.verdict.ensures)

pub returns-then-buffer-lt512 : goal.returns-then-buffer-lt512
returns-then-buffer-lt512 c = no_room _ _ (rw c.in_ok-verdict.was at c.verdict.ensures) (omega arith)

pub returns : goal.returns
returns c =
    rw (c.place.ensures, c.block_of.ensures)
    (written c.args.v c.args.buffer.now (rw c.in_ok-verdict.was at c.verdict.ensures) (omega arith))
