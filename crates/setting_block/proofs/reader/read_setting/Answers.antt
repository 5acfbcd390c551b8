-- `setting_block::reader::read_setting` meets its contract: it tests the first three rows in their order, and the verdict on the values tells the others.
use borrow.Author.Rules.{rules}
use Rattle.std.specs.Prelude.{◌≢◌}
use borrow.Author.Tests.{eq-eqb, ne_eqb}
use mathlib.Core.Path.{◌≡◌, ap, ◌∙◌}
use mathlib.Core.Bool.{not}
use lib.ListN.{length, take}
use Rattle.lists.specs.Tests.{Each, none, ◌&◌}
use Rattle.refusal.specs.declared.Refusal.{Refusal}
use Rattle.refusal.proofs.Stops.{Passed, here, past, told_up}
use Rattle.setting_block.specs.Layout.{spares}
use Rattle.setting_block.specs.Calls.{read_rows, Reads}
use Rattle.setting_block.proofs.ReaderCases.{refused, judged}
use Rattle.setting_block.proofs.reader.read_setting.Goals as goal
use Rattle.setting_block.proofs.reader.read_setting.Goals.{Else-not-checked, Else-not-marked, In-Ok}

-- the rows passed after each test of what was handed over, which is a block of 512 bytes

passed_1 : (c : In-Ok) → Each Passed (take 1 (read_rows c.in-Ok.b.now))
unfolding read_rows
passed_1 c = let long : length c.in-Ok.b.now ≡ 512 = search rules in ap not (eq-eqb _ _ long) & none

passed_2 : (c : Else-not-checked) → Each Passed (take 2 (read_rows c.in-Ok.b.now))
unfolding read_rows
passed_2 c =
    let long : length c.in-Ok.b.now ≡ 512 = search rules in
    ap not (eq-eqb _ _ long) & rw (← c.checked.ensures) (ap not c.if-not-checked.false) & none

passed_3 : (c : Else-not-marked) → Each Passed (take 3 (read_rows c.in-Ok.b.now))
unfolding read_rows
passed_3 c =
    let long : length c.in-Ok.b.now ≡ 512 = search rules in
    ap not (eq-eqb _ _ long)
    & rw (← c.checked.ensures) (ap not c.if-not-checked.false)
    & rw (← c.marked.ensures) (ap not c.if-not-marked.false)
    & none

pub returns-in_default : goal.returns-in_default
unfolding read_rows
returns-in_default c =
    let short : length c.args.s.now ≢ 512 = c.in_default.ensures.1 in
    refused c.args.s.now Refusal.Length (here (ap not (ne_eqb _ _ short)))

pub returns-then-not-checked : goal.returns-then-not-checked
unfolding read_rows
returns-then-not-checked c =
    rw (← c.in-Ok.ensures.1.same)
    (refused c.in-Ok.b.now Refusal.Check
    (past 1 _ (passed_1 (goal.at.returns-then-not-checked c).In-Ok) (here (rw (← c.checked.ensures) (ap not c.if-not-checked.true)))))

pub returns-then-not-marked : goal.returns-then-not-marked
unfolding read_rows
returns-then-not-marked c =
    rw (← c.in-Ok.ensures.1.same)
    (refused c.in-Ok.b.now Refusal.Mark
    (past 2 _ (passed_2 (goal.at.returns-then-not-marked c).Else-not-checked) (here (rw (← c.marked.ensures) (ap not c.if-not-marked.true)))))

pub returns-in_err-verdict_beside : goal.returns-in_err-verdict_beside
returns-in_err-verdict_beside c =
    let p = passed_3 (goal.at.returns-in_err-verdict_beside c).Else-not-marked in
    rw (← c.in-Ok.ensures.1.same)
    (told_up c.from_residual.result _ c.from_residual.ensures.1
    ∙ judged _ p _ (rw c.setting_at-v.ensures at (c.in_err-verdict_beside.ensures (spares _) c.spare_fault.ensures)))

pub returns : goal.returns
returns c =
    let p = passed_3 (goal.at.returns c).Else-not-marked in
    rw (← c.in-Ok.ensures.1.same, c.setting_at-v.ensures)
    (judged _ p _ (rw c.setting_at-v.ensures at (c.in_ok-verdict_beside.ensures (spares _) c.spare_fault.ensures)))
