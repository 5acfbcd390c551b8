-- `setting::factors::factor_at` meets its contract, by whether the end is in use.
use borrow.Author.Tests.{lt-ltb, le-ltb}
use mir.Syntax.{w64}
use Rattle.integer.proofs.Machine.{back_ok}
use Rattle.setting.specs.Values.{factor}
use Rattle.setting.proofs.factors.factor_at.Goals as goal

pub factor-requires : goal.factor-requires
factor-requires c = rw c.end_of.ensures (c.requires.0.rated _ c.if-z-v.true)

pub returns-then-z-v : goal.returns-then-z-v
unfolding factor
returns-then-z-v c =
    rw (lt-ltb _ _ c.if-z-v.true, back_ok w64 c.factor.result c.factor.type_inv, c.factor.ensures, c.end_of.ensures)

pub returns : goal.returns
returns c = rw (le-ltb _ _ c.if-z-v.false)
