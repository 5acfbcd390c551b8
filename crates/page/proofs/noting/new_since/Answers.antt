-- `page::noting::new_since` meets its contract: a full window can be measured.
use borrow.Author.Rules.{rules}
use mathlib.Core.Path.{◌≡◌}
use lib.ListN.{length}
use Rattle.page.proofs.HeldLaws.{held_ready}
use Rattle.page.proofs.noting.new_since.Goals as goal

pub one_starts_anew-requires : goal.one_starts_anew-requires
one_starts_anew-requires c = let long : length c.args.w.values ≡ 144 = search rules in held_ready c.requires long
