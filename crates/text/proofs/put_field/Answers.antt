-- `text::put_field` meets its contract: the space and the number, put one after the other.
use Rattle.lists.specs.Lists.{up_to}
use Rattle.text.specs.Text.{ascii, decimal}
use Rattle.text.proofs.Putting.{room_first, room_after, puts_both}
use Rattle.text.proofs.put_field.Goals as goal

pub put-after-requires : goal.put-after-requires
unfolding ascii up_to
put-after-requires c = room_first (ascii " ") (decimal _) c.requires

pub put_number-requires : goal.put_number-requires
unfolding ascii up_to
put_number-requires c =
    room_after (decimal _) c.requires c.put-after.ensures

pub returns : goal.returns
unfolding ascii up_to
returns c =
    puts_both c.requires c.put-after.ensures c.put_number.ensures
