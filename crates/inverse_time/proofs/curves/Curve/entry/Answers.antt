-- `curves::Curve::entry` meets its contract: each table passes the test of its rule. Its numbers stand in the code alone.
use borrow.Author.Rules.{rules}
use Rattle.inverse_time.specs.declared.curves.Curve.TheVariants.{VeryInverse, ExtremelyInverse}
use Rattle.inverse_time.specs.Curves.{entry}
use Rattle.inverse_time.proofs.CurveLaws.{table_at}
use Rattle.inverse_time.proofs.curves.Curve.entry.Goals as goal

pub returns-in-VeryInverse : goal.returns-in-VeryInverse
unfolding entry
returns-in-VeryInverse c = rw c.in-VeryInverse.is (table_at c.number.ensures VeryInverse tt (search rules) (search rules))

pub returns-in-ExtremelyInverse : goal.returns-in-ExtremelyInverse
unfolding entry
returns-in-ExtremelyInverse c =
    rw c.in-ExtremelyInverse.is (table_at c.number-in-ExtremelyInverse.ensures ExtremelyInverse tt (search rules) (search rules))
