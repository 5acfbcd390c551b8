-- `integer::few_turns` meets its contract, which is the law of proofs/FewTurns.antt.
use Rattle.integer.proofs.FewTurns.{few_turns}
use Rattle.integer.proofs.few_turns.Goals as goal

pub returns : goal.returns
returns c = few_turns
