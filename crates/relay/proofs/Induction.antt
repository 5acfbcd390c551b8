-- The induction over lists of calls from a fresh relay. An invariant speaks of the record and of a state that follows the calls: the calls made so far, the
-- sets filed, or the record of another list that runs beside this one. It holds of every record of the list if it holds of the fresh record and each
-- call keeps it; and what each call then shows holds of every call.
use mathlib.Core.Path.{refl}
use mathlib.Core.List.{List, [], ◌∷◌, foldl}
use lib.Dec.{T}
use Rattle.lists.specs.Tests.{Each, none, ◌&◌}
use Rattle.setting.specs.declared.Setting.{Setting}
use Rattle.setting.specs.Values.{startable}
use Rattle.relay.specs.declared.Relay.{Relay}
use Rattle.relay.specs.Record.{fresh}
use Rattle.relay.specs.Lists.{Call, after, run, Every}
use Rattle.relay.proofs.Kept.{Valid, Step, step, fresh_admissible, valid_after}

-- what is to be given, for calls that are `Allowed`
pub record Invariant (v : Setting) (Allowed : Call → Type 0) : Type 1 where
  -- the state that follows the calls
  pub State : Type 0
  pub start : State
  pub next : State → Call → State
  -- the invariant, and what is shown of a call
  pub Inv : State → Relay → Type 0
  pub Shown : State → Relay → Call → Type 0
  pub first : Inv start (fresh v)
  -- the record of a step is valid, and the call does one of the things that `Step` has
  pub keeps : {g : State} {r s : Relay} {c : Call} → Valid v r → Inv g r → Allowed c → Step v r c s → Inv (next g c) s × Shown g r c

module _ {v : Setting} {Allowed : Call → Type 0} (I : Invariant v Allowed) where
  -- every record of the list, and every call
  pub data Along : I.State → Relay → List Call → Type 0 where
    ends : {g : I.State} {r : Relay} → Valid v r → I.Inv g r → Along g r []
    goes : {g : I.State} {r : Relay} {c : Call} {cs : List Call} → Valid v r → I.Inv g r → I.Shown g r c → Along (I.next g c) (after r c) cs →
        Along g r (c ∷ cs)

  from : {g : I.State} {r : Relay} {cs : List Call} → Valid v r → I.Inv g r → Each Allowed cs → Along g r cs
  from h i none = ends h i
  from {g = g} {r = r} h i (◌&◌ {a = c} {l = l} p ps) = let k = I.keeps h i p (step h c) in goes h i k.1 (from {g = I.next g c} {r = after r c} (valid_after h c) k.0 ps)

  pub along : T (startable v) → {cs : List Call} → Each Allowed cs → Along I.start (fresh v) cs
  unfolding fresh
  along s ps = from (record { ok = fresh_admissible v s; same = refl }) I.first ps

  -- the last record of the list
  pub last : {g : I.State} {r : Relay} {cs : List Call} → Along g r cs → Valid v (run r cs) × I.Inv (foldl I.next g cs) (run r cs)
  last (ends h i) = (h, i)
  last (goes h i k a) = last a

  -- what follows of every record and of every call
  module _ {R : Relay → Type 0} {P : Relay → Call → Type 0} (of-record : (g : I.State) (r : Relay) → I.Inv g r → R r)
      (of-call : (g : I.State) (r : Relay) (c : Call) → I.Shown g r c → P r c) where
    pub every : {g : I.State} {r : Relay} {cs : List Call} → Along g r cs → Every R P r cs
    every (ends h i) = of-record _ _ i
    every (goes h i k a) = (of-record _ _ i, (of-call _ _ _ k, every a))

-- where nothing is asked of the calls
pub any_call : (cs : List Call) → Each (λ c. Unit {0}) cs
any_call [] = none
any_call (c ∷ cs) = tt & any_call cs
