-- `text::fewest` states what Decimal proves.
use Rattle.text.proofs.Decimal.{fewest_places}
use Rattle.text.proofs.fewest.Goals as goal

pub returns : goal.returns
returns c = fewest_places
