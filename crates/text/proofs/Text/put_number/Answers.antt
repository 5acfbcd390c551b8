-- `Text::put_number` meets its contract: the number stands after the text, and zeros after that.
use Rattle.text.proofs.Putting.{text_kept}
use Rattle.text.proofs.Text.put_number.Goals as goal

pub invariant_of-self : goal.invariant_of-self
invariant_of-self g c = text_kept c.self.invariant c.self.view_is c.requires c.put_number-self-inside.ensures
