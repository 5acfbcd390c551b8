-- `setting::judging::fields_verdict` meets its contract: the sooner of the two faults is the lowest of all fields, and where there is none the factors can
-- be worked out.
use mathlib.Core.Path.{◌≡◌, sym, ◌∙◌}
use mathlib.Core.Bool.{true}
use mathlib.Core.List.{List, ◌++◌}
use native.Mathlib.Omega.{arith}
use Prim.Native.Nat.{ℕ, ◌≤◌}
use borrow.Author.Tests.{le-leb}
use Rattle.std.specs.Prelude.{None}
use Rattle.setting.specs.declared.Field.{Field}
use Rattle.setting.specs.Values.{between, fields, lowest}
use Rattle.setting.proofs.FieldLaws.{lowest-++, lower_none, some_wrong, none_wrong}
use Rattle.setting.proofs.LimitLaws.{limits_of}
use Rattle.setting.proofs.judging.fields_verdict.Goals as goal
use Rattle.setting.proofs.judging.fields_verdict.Goals.{After-sooner}

-- where the number of ends is 2 to 4
ends : (n : ℕ) → 2 ≤ n → n ≤ 4 → between 2 4 n ≡ true
ends n low high = rw (le-leb 2 n low, le-leb n 4 high)

lowest_is : (c : After-sooner) (gs : List Field) → c.args.beside ≡ lowest gs → lowest (fields c.args.v ++ gs) ≡ c.sooner.result
lowest_is c gs g = lowest-++ (fields c.args.v) gs ∙ rw (← c.fault.ensures, ← g) (sym c.sooner.ensures)

pub returns-in-Some-clause-rows : goal.returns-in-Some-clause-rows
returns-in-Some-clause-rows c gs g =
    let at = rw c.in-Some.is at (lowest_is (goal.at.returns-in-Some-clause-rows c).After-sooner gs g) in
    rw (ends c.args.v.ends (omega arith) (omega arith), some_wrong (fields c.args.v ++ gs) at, at)

pub returns-in-None-clause-rows : goal.returns-in-None-clause-rows
returns-in-None-clause-rows c gs g =
    let at = rw c.in-None.is at (lowest_is (goal.at.returns-in-None-clause-rows c).After-sooner gs g) in
    rw (ends c.args.v.ends (omega arith) (omega arith), none_wrong (fields c.args.v ++ gs) at)

pub returns-in-None-clause-limits : goal.returns-in-None-clause-limits
returns-in-None-clause-limits c =
    let nowhere : c.fault.result ≡ None = lower_none _ _ (sym c.sooner.ensures ∙ c.in-None.is) in
    let right = none_wrong (fields c.args.v) (sym c.fault.ensures ∙ nowhere) in
    limits_of c.args.v (rw right tt) (omega arith) (omega arith)
