-- `relay::paging::byte_at` meets its contract: 15, 12, or the byte.
use mathlib.Core.Path.{sym, ◌∙◌}
use Rattle.relay.proofs.Ready.{held}
use Rattle.relay.proofs.paging.byte_at.Goals as goal

pub byte_at-requires : goal.byte_at-requires
byte_at-requires c = held c.args.r (sym c.admissible.ensures ∙ c.if-not-admissible.false)
