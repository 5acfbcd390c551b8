-- `setting::judging::sound` meets its contract: the verdict is `Ok` on startable values, and on no others.
use mathlib.Core.Path.{◌≡◌, sym, ◌∙◌}
use native.Mathlib.Omega.{arith}
use Prim.Native.Nat.{ℕ}
use Rattle.std.specs.Prelude.{Result, Ok, Err, is_ok}
use Rattle.lists.proofs.TestLaws.{is_true, is_false}
use Rattle.refusal.specs.declared.Refusal.{Refusal}
use Rattle.refusal.specs.Refusals.{first_refusal, done}
use Rattle.refusal.proofs.Stops.{none_gives, gives_none}
use Rattle.setting.specs.declared.Setting.{Setting}
use Rattle.setting.specs.Values.{start_rows, startable}
use Rattle.setting.specs.Calls.{JudgesStart}
use Rattle.setting.proofs.judging.sound.Goals as goal

judged : (v : Setting) (r : Result (Unit {0}) Refusal) → JudgesStart v r → is_ok r ≡ startable v
judged v (Ok u) j = sym (is_true (gives_none (start_rows v) _ _ (sym j)))
judged v (Err r) j =
    sym
    (is_false
    (λ t.
    let e : first_refusal (start_rows v) ≡ done = none_gives (start_rows v) t _ in
    let z : ◌≡◌ {A = ℕ} 0 1 = cc j in
    omega arith))

pub returns : goal.returns
returns c = c.is_ok.ensures.value ∙ judged c.args.v c.start_verdict.result c.start_verdict.ensures
