-- `text::put` meets its contract: the part of the buffer from the place on is what is put.
use Rattle.std.proofs.Common.{refl, arith}
use Rattle.std.proofs.lemmas.Slice.{put_mid-paste}
use Rattle.text.proofs.put.Goals as goal

pub returns : goal.returns
returns c =
    let args = c.args in
    record {
      bytes = put_mid-paste args.at _ args.buffer.now _ args.s.now _ c.copy_from_slice.ensures.after (omega arith) refl;
      place = refl;
    }
