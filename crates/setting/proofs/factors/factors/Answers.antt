-- `setting::factors::factors` meets its contract: each factor is that of its end.
use borrow.Author.Rules.{rules}
use lib.IntN.{pos}
use Rattle.setting.specs.Limits.{factor_or0, four_factors}
use Rattle.setting.proofs.Calls.{made}
use Rattle.setting.proofs.factors.factors.Goals as goal

pub returns : goal.returns
unfolding four_factors
returns c = made _ _ (factor_or0 c.args.v) c.from_fn.result (pos 0) 4 (λ i r q l k. search rules) c.from_fn.ensures.items
