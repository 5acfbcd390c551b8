-- `sum_after` meets its contract. Nothing wraps, since no sum grows by more than 1,000,000,000.
use mathlib.Core.Path.{◌≡◌, ap}
use Prim.Native.Nat.{ℕ, ◌/◌}
use borrow.Author.Rules.{rules}
use borrow.Author.Tests.{lt-ltb, le-ltb}
use native.Mathlib.Omega.{arith}
use Rattle.inverse_time.specs.Curves.{curve_of}
use Rattle.inverse_time.specs.Timers.{growth, sum_after}
use Rattle.inverse_time.proofs.CurveLaws.{entry_within}
use Rattle.inverse_time.proofs.sum_after.Goals as goal

pub returns-then-j-lt11 : goal.returns-then-j-lt11
unfolding sum_after
returns-then-j-lt11 c = rw (lt-ltb c.args.j 11 (search rules))

pub nonzero_div-entry : goal.nonzero_div-entry
nonzero_div-entry c = let a = c.args in omega (arith, c.entry.ensures, entry_within (curve_of a.curve) a.j (search rules) (search rules))

pub returns : goal.returns
unfolding sum_after growth
returns c =
    let grows : 1000000000 / c.entry.result ≡ growth (curve_of c.args.curve) c.args.j = ap (λ (e : ℕ). 1000000000 / e) c.entry.ensures in
    rw (le-ltb c.args.j 11 (search rules)) (omega (arith, grows))
