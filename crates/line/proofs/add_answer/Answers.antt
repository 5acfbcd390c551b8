-- `line::add_answer` meets its contract, by whether the answer is Measured: F or M, and then the three D.
use mathlib.Core.Path.{◌≡◌, refl}
use native.Mathlib.Omega.{arith}
use Rattle.lists.specs.Lists.{up_to}
use Rattle.relay.specs.declared.Answer.{Answer}
use Rattle.relay.specs.declared.Answer.TheVariants.{Filling, Measured}
use Rattle.text.specs.Text.{ascii}
use Rattle.line.specs.Line.{columns}
use Rattle.line.proofs.Few.{few_of, few_then}
use Rattle.line.proofs.add_answer.Goals as goal

-- no answer but Measured has other columns than while the window fills
unmeasured : (a : Answer) → ((m : _) (t : _) → a ≡ Measured m t → ⊥) → columns a ≡ columns (Filling 0)
unmeasured (Filling n) h = refl
unmeasured (Measured m t) h = absurd (h m t refl)

pub returns-in_default : goal.returns-in_default
unfolding ascii up_to
returns-in_default g c =
    rw (unmeasured c.args.answer c.in_default.not-Measured)
    (few_then {j = 2} {k = 33} (few_of c.put.ensures (omega arith)) c.add_currents.ensures)

pub returns : goal.returns
unfolding ascii up_to
returns g c =
    rw c.in-Measured.is (few_then {j = 2} {k = 33} (few_of c.put-2.ensures (omega arith)) c.add_currents-2.ensures)
