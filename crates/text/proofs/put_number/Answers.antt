-- `text::put_number` meets its contract: what is put are the fewest digits, and these are the number's text.
use mathlib.Core.Path.{◌≡◌}
use lib.ListN.{take}
use Rattle.io.specs.Digits.{IsDigitCount}
use Rattle.text.specs.Text.{decimal}
use Rattle.text.proofs.Decimal.{decimal_is}
use Rattle.text.proofs.put_number.Goals as goal
use Rattle.text.proofs.put_number.Goals.{After-decimal-k}

-- the digits that are put
text : (c : After-decimal-k) → take c.decimal-k.result c.decimal-k.new.out ≡ decimal c.args.n
text c = let f : IsDigitCount 10 1 c.args.n c.decimal-k.result = c.decimal-k.ensures.len in decimal_is f c.decimal-k.ensures.digits

pub put-requires : goal.put-requires
put-requires c = rw (text (goal.at.put-requires c).After-decimal-k) c.requires

pub returns : goal.returns
returns c = rw (text (goal.at.returns c).After-decimal-k) at c.put.ensures
