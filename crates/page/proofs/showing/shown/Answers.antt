-- `page::showing::shown` meets its contract: a full window can be measured.
use borrow.Author.Rules.{rules}
use mathlib.Core.Path.{◌≡◌}
use lib.ListN.{length}
use Rattle.page.proofs.HeldLaws.{held_ready}
use Rattle.page.proofs.showing.shown.Goals as goal

pub measure-requires : goal.measure-requires
measure-requires c = let long : length c.args.w.values ≡ 144 = search rules in held_ready c.requires long
