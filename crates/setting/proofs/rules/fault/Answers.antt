-- `setting::rules::fault` meets its contract: the search finds the first field outside its rule, and of fields whose offsets rise the first is the lowest.
use borrow.Author.Rules.{rules}
use borrow.Author.Tests.{tests}
use mathlib.Core.Path.{◌≡◌, ap, ◌∙◌}
use Rattle.std.specs.Prelude.{not, option_map}
use Rattle.std.proofs.lemmas.Iterator.{YieldsList-from_slice}
use Rattle.std.proofs.lemmas.Iterator.Search.{find_from_yields_List}
use Rattle.setting.specs.Values.{offset_of, right, fields, lowest}
use Rattle.setting.proofs.FieldLaws.{first_wrong, first_lowest}
use Rattle.setting.proofs.rules.fault.Goals as goal
use Rattle.setting.proofs.rules.fault.Goals.{After-find}

-- the offset of what the search finds
first : (c : After-find) → option_map offset_of (option_map (λ f. f.now) c.find.result) ≡ lowest (fields c.args.v)
first c =
    ap (option_map offset_of)
    (find_from_yields_List (λ f. not (right f)) _ _ c.find.result c.find.ensures.ran (YieldsList-from_slice c.fields-fields.result cc)
    (λ x b q k. search (rules, tests)))
    ∙ ap first_wrong c.fields-fields.ensures
    ∙ first_lowest 0 (fields c.args.v) tt

pub returns : goal.returns
returns c = rw c.in_ok-wrong.was at (first (goal.at.returns c).After-find)

pub returns-in_err-wrong : goal.returns-in_err-wrong
returns-in_err-wrong c = c.from_residual.ensures ∙ rw c.in_err-wrong.was at (first (goal.at.returns-in_err-wrong c).After-find)
