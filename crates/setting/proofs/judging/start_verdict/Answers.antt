-- `setting::judging::start_verdict` meets its contract: a refusal of the fields stays, past them slopes that fall are told, and past these the factors tell.
use borrow.Author.Tests.{lt-ltb, le-ltb}
use mathlib.Core.Path.{◌≡◌, sym, ◌∙◌, refl}
use mathlib.Core.List.{[], ◌∷◌}
use Rattle.std.specs.Prelude.{List}
use Rattle.refusal.specs.Refusals.{Row, ◌when◌, done, first_refusal}
use Rattle.refusal.proofs.Stops.{told_up, refusal_stays, done_goes_on}
use Rattle.setting.specs.declared.Setting.{Setting}
use Rattle.setting.specs.Values.{fields, field_rows, falling, factor_rows, start_rows}
use Rattle.setting.proofs.judging.start_verdict.Goals as goal

abbrev rest : Setting → List Row
rest v = (17 when falling v.thresholds) ∷ factor_rows v

-- past the fields
past : (v : Setting) → done ≡ first_refusal (field_rows (fields v) v) → first_refusal (start_rows v) ≡ first_refusal (rest v)
unfolding start_rows
past v e = done_goes_on (field_rows (fields v) v) (rest v) e

pub returns-in_err-fields_verdict : goal.returns-in_err-fields_verdict
unfolding start_rows
returns-in_err-fields_verdict c =
    told_up c.from_residual.result _ c.from_residual.ensures.1
    ∙ refusal_stays (field_rows (fields c.args.v) c.args.v) (rest c.args.v) (c.in_err-fields_verdict.ensures.rows [] refl)

pub returns-then-v : goal.returns-then-v
returns-then-v c =
    let t = c.args.v.thresholds in
    sym (past c.args.v (c.in_ok-fields_verdict.ensures.rows [] refl) ∙ rw (lt-ltb t.slope2 t.slope1 c.if-v.true))

pub returns : goal.returns
returns c =
    let t = c.args.v.thresholds in
    c.factors_verdict.ensures ∙ sym (past c.args.v (c.in_ok-fields_verdict.ensures.rows [] refl) ∙ rw (le-ltb t.slope2 t.slope1 c.if-v.false))
