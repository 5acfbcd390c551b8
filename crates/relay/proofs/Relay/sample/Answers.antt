-- `relay::Relay::sample` meets its contract: 12, the refusal of the set, or the set filed and answered.
use borrow.Author.Tests.{eq-eqb, ne_eqb}
use mathlib.Core.Path.{◌≡◌, refl, sym, ap, ◌∙◌}
use mathlib.Core.Bool.{true}
use mathlib.Core.List.{List}
use Prim.Native.Nat.{◌≤◌, ◌<◌}
use native.Mathlib.Omega.{arith}
use lib.Dec.{T}
use lib.IntN.{ℤ}
use Rattle.lists.proofs.TestLaws.{is_true}
use Rattle.refusal.specs.Refusals.{gives, outcome_of}
use Rattle.refusal.proofs.Stops.{here, gives_none}
use Rattle.matching.specs.Sets.{numbers}
use Rattle.state.specs.State.{window_with}
use Rattle.state.proofs.Placed.{window_with_fill}
use Rattle.relay.specs.declared.Relay.{Relay}
use Rattle.relay.specs.declared.Answer.{Answer}
use Rattle.relay.specs.declared.Returned.{Returned}
use Rattle.relay.specs.Record.{admissible}
use Rattle.relay.specs.Calls.{set_rows, accepted, sample_rows, window_after, reply_now, relay_now, Gives, Samples}
use Rattle.relay.proofs.Admission.{admitted}
use Rattle.relay.proofs.Cases.{declined, set_declined, set_taken}
use Rattle.relay.proofs.Ready.{factors_ready, few_held, numbers_ready, measure_ready}
use Rattle.relay.proofs.Relay.sample.Goals as goal
use Rattle.relay.proofs.Relay.sample.Goals.{After-place-w, In_default}

pub returns-then-not-admissible : goal.returns-then-not-admissible
unfolding sample_rows
returns-then-not-admissible c =
    rw c.declined.ensures
    (declined c.args.self c.args.set.now (here (rw (← c.admissible.ensures) (rw c.if-not-admissible.true))) (record { reply = refl; relay = refl }))

pub returns-in-Err : goal.returns-in-Err
returns-in-Err c =
    let r = c.args.self in
    let ok : admissible r ≡ true = sym c.admissible.ensures ∙ c.if-not-admissible.false in
    rw c.declined-in-Err.ensures
    (set_declined r.setting r c.args.set.now ok refl (sym c.set_verdict.ensures ∙ ap outcome_of c.in-Err.is) (record { reply = refl; relay = c.flagged.ensures }))

-- where the set is accepted
module _ (c : In_default) where
  abbrev r : Relay
  r = c.args.self

  abbrev xs : List ℤ
  xs = c.args.set.now

  admissible_r : admissible r ≡ true
  admissible_r = sym c.admissible.ensures ∙ c.if-not-admissible.false

  let_in : T (accepted r.setting xs)
  let_in = gives_none (set_rows r.setting xs) _ _ (sym c.set_verdict.ensures ∙ ap outcome_of c.in_default.is)

pub factors-requires : goal.factors-requires
factors-requires c = factors_ready _ (admissible_r (goal.at.factors-requires c).In_default)

pub weights-weights-requires : goal.weights-weights-requires
weights-weights-requires c =
    let d = (goal.at.weights-weights-requires c).In_default in record { sound = admitted (r d) (admissible_r d) 0; factors = c.factors.ensures }

pub numbers-requires : goal.numbers-requires
numbers-requires c =
    let d = (goal.at.numbers-requires c).In_default in
    numbers_ready (r d).setting (xs d) (let_in d) (admitted (r d) (admissible_r d) 0) _ c.weights-weights.ensures

pub place-w-requires : goal.place-w-requires
place-w-requires c = few_held _ (admissible_r (goal.at.place-w-requires c).In_default)

-- once the set is filed
module _ (c : After-place-w) where
  abbrev at : Relay
  at = c.args.self

  abbrev set : List ℤ
  set = c.args.set.now

  ok : admissible at ≡ true
  ok = sym c.admissible.ensures ∙ c.if-not-admissible.false

  taken : T (accepted at.setting set)
  taken = gives_none (set_rows at.setting set) _ _ (sym c.set_verdict.ensures ∙ ap outcome_of c.in_default.is)

  filed : c.place-w.result ≡ window_after at set
  filed = c.place-w.ensures.window ∙ ap (λ (ns : List ℤ). window_with at.window ns) c.numbers.ensures

  answered : {s : Returned Answer} → Gives (gives (reply_now at c.place-w.result)) (relay_now at c.place-w.result) s → Samples at set s
  answered g = set_taken at.setting at set ok refl (is_true taken) c.place-w.result filed g

  at_most : c.place-w.result.fill ≤ 12
  at_most = rw filed (window_with_fill at.window (numbers at.setting set))

pub filling-requires : goal.filling-requires
filling-requires c =
    let less : c.place-w.result.fill < 12 = omega arith in
    record { admitted = ok (goal.at.filling-requires c).After-place-w; unfilled = ne_eqb c.place-w.result.fill 12 (λ e. omega arith) }

pub returns-then-w-lt12 : goal.returns-then-w-lt12
returns-then-w-lt12 c = answered (goal.at.returns-then-w-lt12 c).After-place-w c.filling.ensures

pub measured-requires : goal.measured-requires
measured-requires c =
    let n = c.place-w.result.fill in
    let d = (goal.at.measured-requires c).After-place-w in
    let more : 12 ≤ n = omega arith in
    let most = at_most d in
    record {
      admitted = ok d;
      window =
          record {
            full = eq-eqb n 12 (omega arith);
            measurable = measure_ready (at d) (set d) (ok d) (taken d) _ (filed d) c.place-w.ensures.long;
          };
    }

pub returns-else-w-lt12 : goal.returns-else-w-lt12
returns-else-w-lt12 c = answered (goal.at.returns-else-w-lt12 c).After-place-w c.measured.ensures
