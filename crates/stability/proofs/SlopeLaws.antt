-- A record whose slopes fall is inadmissible: each call declines it, and leaves it. So through a list every call meets the same record.
use mathlib.Core.Path.{◌≡◌, refl}
use mathlib.Core.Bool.{Bool, true, false, cond}
use mathlib.Core.List.{List, [], ◌∷◌}
use Prim.Native.Nat.{ℕ}
use lib.Dec.{T, leb}
use Rattle.refusal.specs.Refusals.{Outcome, declines, by_outcome, alone}
use Rattle.setting.specs.Values.{falling, startable}
use Rattle.setting.proofs.SlopeLaws.{falling_not}
use Rattle.relay.specs.declared.Relay.{Relay}
use Rattle.relay.specs.Record.{admissible}
use Rattle.relay.specs.Calls.{sample_rows, reset_rows}
use Rattle.relay.specs.Page.{fixed, read_rows, write_rows, written}
use Rattle.relay.specs.Lists.{Call, sample, reset, read, write, after, Every}
use Rattle.stability.specs.Slopes.{DeclinedCall, FallingDeclined}

module _ (r : Relay) (f : T (falling r.setting.thresholds)) where
  not_admissible : admissible r ≡ false
  unfolding admissible
  not_admissible = let e : startable r.setting ≡ false = falling_not r.setting f in rw e

  declined_call : (c : Call) → DeclinedCall r c
  unfolding sample_rows reset_rows read_rows write_rows
  declined_call (sample xs) = rw not_admissible
  declined_call reset = rw not_admissible
  declined_call (read offset) = rw not_admissible
  declined_call (write offset byte) = rw not_admissible

  call_leaves : (c : Call) → after r c ≡ r
  unfolding sample_rows reset_rows write_rows
  call_leaves (sample xs) = rw not_admissible
  call_leaves reset = rw not_admissible
  call_leaves (read offset) = refl
  call_leaves (write offset byte) = rw not_admissible (by (leb 64 offset) (fixed offset).applies)
    where
      by : (a b : Bool) →
          by_outcome {A = Unit {0}} (cond a (declines (alone 15)) (cond b (declines (alone 16)) (declines (alone 12)))) (λ refusal. r) (λ done. written r offset byte) ≡ r
      by true b = refl
      by false true = refl
      by false false = refl

  declined_list : (cs : List Call) → Every (λ s. s ≡ r) DeclinedCall r cs
  declined_list [] = refl
  declined_list (c ∷ cs) = (refl, (declined_call c, rw (call_leaves c) (declined_list cs)))

pub falling_declined : FallingDeclined
unfolding FallingDeclined
falling_declined r f cs = declined_list r f cs
