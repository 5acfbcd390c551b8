-- `relay::calls::filling` meets its contract: no system counts at a set that answers Filling.
use borrow.Author.Rules.{rules}
use Rattle.relay.proofs.Settled.{filling_reply, filling_relay}
use Rattle.relay.proofs.calls.filling.Goals as goal

pub returns : goal.returns
returns c =
    let p = c.requires in
    record {
      reply = filling_reply c.args.r c.args.w p.unfilled;
      relay = filling_relay c.args.r c.args.w p.unfilled p.admitted (search rules) (search rules) (search rules);
    }
