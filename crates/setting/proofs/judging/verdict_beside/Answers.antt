-- `setting::judging::verdict_beside` meets its contract: a refusal of the fields stays, and past them the factors tell.
use mathlib.Core.Path.{sym, ◌∙◌}
use mathlib.Core.List.{◌++◌}
use Rattle.refusal.proofs.Stops.{told_up, refusal_stays, done_goes_on}
use Rattle.setting.specs.Values.{fields, field_rows, factor_rows, value_rows}
use Rattle.setting.proofs.judging.verdict_beside.Goals as goal

pub returns-in_err-fields_verdict : goal.returns-in_err-fields_verdict
unfolding value_rows
returns-in_err-fields_verdict c gs g =
    let v = c.args.v in
    told_up c.from_residual.result _ c.from_residual.ensures.1
    ∙ refusal_stays (field_rows (fields v ++ gs) v) (factor_rows v) (c.in_err-fields_verdict.ensures.rows gs g)

pub returns : goal.returns
unfolding value_rows
returns c gs g =
    let v = c.args.v in
    c.factors_verdict.ensures ∙ sym (done_goes_on (field_rows (fields v ++ gs) v) (factor_rows v) (c.in_ok-fields_verdict.ensures.rows gs g))
