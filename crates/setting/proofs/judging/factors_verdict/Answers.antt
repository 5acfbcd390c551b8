-- `setting::judging::factors_verdict` meets its contract: the four factors are high or low as those of the ends in use are.
use mathlib.Core.Path.{◌≡◌, ◌∙◌}
use mathlib.Core.Bool.{false}
use native.Mathlib.Omega.{arith}
use lib.Dec.{ltb}
use borrow.Author.Tests.{lt-ltb, le-ltb}
use Rattle.setting.specs.Values.{factor_high, factors_low}
use Rattle.setting.proofs.FactorLaws.{high_is, low_is}
use Rattle.setting.proofs.judging.factors_verdict.Goals as goal
use Rattle.setting.proofs.judging.factors_verdict.Goals.{After-how_many-2}

pub returns-then-how_many-gt0 : goal.returns-then-how_many-gt0
returns-then-how_many-gt0 c = rw (high_is c.requires c.factors-k.ensures c.how_many.ensures, lt-ltb _ _ c.if-how_many-gt0.true)

-- where no factor is high
module _ (c : After-how_many-2) where
  not_high : factor_high c.args.v ≡ false
  not_high = high_is c.requires c.factors-k.ensures c.how_many.ensures ∙ le-ltb 0 c.how_many.result c.if-how_many-gt0.false

  low : factors_low c.args.v ≡ ltb c.how_many-2.result 2
  low = low_is c.requires c.factors-k.ensures c.how_many-2.ensures

pub returns-then-how_many-lt2 : goal.returns-then-how_many-lt2
returns-then-how_many-lt2 c =
    let b = (goal.at.returns-then-how_many-lt2 c).After-how_many-2 in rw (not_high b, low b, lt-ltb c.how_many-2.result 2 (omega arith))

pub returns : goal.returns
returns c = let b = (goal.at.returns c).After-how_many-2 in rw (not_high b, low b, le-ltb c.how_many-2.result 2 (omega arith))
