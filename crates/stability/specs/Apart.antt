-- Reads and writes among other calls (§ The register page 5).
use Rattle.std.specs.Prelude.{◌≡◌, Bool, true, false, cond, List, [], ◌∷◌, ℕ}
use Rattle.refusal.specs.Refusals.{Outcome}
use Rattle.relay.specs.declared.Answer.{Answer}
use Rattle.relay.specs.declared.Relay.{Relay}
use Rattle.relay.specs.Record.{admissible}
use Rattle.relay.specs.Calls.{sample_reply, reset_reply}
use Rattle.relay.specs.Page.{resets, read_reply, write_reply}
use Rattle.relay.specs.Lists.{Call, sample, reset, read, write, after, run}

-- what is left where reads, and writes that do not reset, are struck
abbrev pub stays : Call → Bool
stays (sample xs) = true
stays reset = true
stays (read offset) = false
stays (write offset byte) = resets offset byte

unfoldable pub struck : List Call → List Call
struck [] = []
struck (c ∷ cs) = cond (stays c) (c ∷ struck cs) (struck cs)

-- what a call answers
pub data Told : Type 0 where
  sampled : Outcome Answer → Told
  done : Outcome (Unit {0}) → Told
  byte : Outcome ℕ → Told

abbrev pub told : Relay → Call → Told
told r (sample xs) = sampled (sample_reply r xs)
told r reset = done (reset_reply r)
told r (read offset) = byte (read_reply r offset)
told r (write offset value) = done (write_reply r offset)

-- the answers of the calls that stay, in order; each call, struck or not, passes its record on
unfoldable pub answers : Relay → List Call → List Told
answers r [] = []
answers r (c ∷ cs) = cond (stays c) (told r c ∷ answers (after r c) cs) (answers (after r c) cs)

-- records that differ in flags and interrupt mask at most
pub record Alike (r s : Relay) : Type 0 where
  pub setting : r.setting ≡ s.setting
  pub window : r.window ≡ s.window
  pub trip : r.trip ≡ s.trip
  pub backup : r.backup ≡ s.backup

-- Take any list of calls from any admissible record, and the same list without reads and without writes that do not reset: the sample calls and resets
-- that are left have the same answers, and the records after them differ in flags and interrupt mask at most.
unfoldable pub PageApart : Type 0
PageApart = (r : Relay) → admissible r ≡ true → (cs : List Call) → (answers r cs ≡ answers r (struck cs)) × Alike (run r cs) (run r (struck cs))
