-- A record whose setting has slopes that fall (§ The relay record 1: it is inadmissible, refusal 12).
use Rattle.std.specs.Prelude.{◌≡◌, true, List, [], ◌∷◌, T}
use Rattle.refusal.specs.Refusals.{declines, alone, ◌when◌, first_of, first_refusal}
use Rattle.setting.specs.Values.{falling}
use Rattle.relay.specs.declared.Relay.{Relay}
use Rattle.relay.specs.Calls.{sample_reply, reset_reply}
use Rattle.relay.specs.Page.{beyond, fixed, read_reply, write_reply}
use Rattle.relay.specs.Lists.{Call, sample, reset, read, write, Every}

-- a sample call and a reset decline with 12; a read with 15, else 12; a write with 15, 16, else 12
abbrev pub DeclinedCall : Relay → Call → Type 0
DeclinedCall r (sample xs) = sample_reply r xs ≡ declines (alone 12)
DeclinedCall r reset = reset_reply r ≡ declines (alone 12)
DeclinedCall r (read offset) = read_reply r offset ≡ first_of (beyond offset ∷ (12 when true) ∷ []) 0
DeclinedCall r (write offset byte) = write_reply r offset ≡ first_refusal (beyond offset ∷ fixed offset ∷ (12 when true) ∷ [])

-- From any record whose setting has m2 less than m1, whatever else it holds, and through any list of calls: each is declined, and the record stays as it was.
unfoldable pub FallingDeclined : Type 0
FallingDeclined = (r : Relay) → T (falling r.setting.thresholds) → (cs : List Call) → Every (λ s. s ≡ r) DeclinedCall r cs
