-- Demand 3 (§ The three demands 3, § A healthy bank): one claim about the whole list of calls from a fresh relay. It keeps to the differential element,
-- and holds with X and the curve at any accepted value.
use Rattle.std.specs.Prelude.{◌≡◌, ◌≢◌, false, List, ◌≤◌, T}
use Rattle.lists.specs.Tests.{Each}
use Rattle.refusal.specs.Refusals.{Outcome, gives, declines}
use Rattle.bits.specs.Bits.{bits_of}
use Rattle.setting.specs.declared.Setting.{Setting}
use Rattle.setting.specs.Values.{startable}
use Rattle.matching.specs.Sets.{System}
use Rattle.matching.specs.Bank.{Healthy}
use Rattle.amplitude.specs.Peak.{peak}
use Rattle.relay.specs.declared.Measure.{Measure}
use Rattle.relay.specs.declared.Answer.{Answer}
use Rattle.relay.specs.declared.Answer.TheVariants.{Filling, Measured}
use Rattle.relay.specs.declared.Relay.{Relay}
use Rattle.state.specs.State.{element_of}
use Rattle.relay.specs.Record.{fresh}
use Rattle.relay.specs.Calls.{accepted, sample_reply, reset_reply}
use Rattle.relay.specs.Page.{read_reply, write_reply}
use Rattle.relay.specs.Lists.{Call, sample, reset, read, write, Every}

-- each accepted set is that of a healthy bank
abbrev pub HealthyCall : Setting → Call → Type 0
HealthyCall v (sample xs) = T (accepted v xs) → Healthy v xs
HealthyCall v reset = Unit {0}
HealthyCall v (read offset) = Unit {0}
HealthyCall v (write offset byte) = Unit {0}

-- no start, no latch, and D at most 45, 69 or 91 thousandths of reference current for E 2, 3 or 4
pub record Calm (v : Setting) (m : Measure) : Type 0 where
  pub no_start : m.reading.start ≡ false
  pub no_latch : m.latched ≡ false
  pub small_d : m.reading.d ≤ peak v.ends

abbrev pub CalmReply : Setting → Answer → Type 0
CalmReply v (Filling n) = Unit {0}
CalmReply v (Measured ms trips) = Calm v ms.a × Calm v ms.b × Calm v ms.c

-- refusal 12 does not arise, and something holds of what is given
abbrev pub Without12 : {A : Type 0} → (OfGiven : A → Type 0) → Outcome A → Type 0
Without12 OfGiven (gives a) = OfGiven a
Without12 OfGiven (declines told) = told.number ≢ 12

-- refusal 12 does not arise, and a Measured answer is calm
abbrev pub CalmCall : Setting → Relay → Call → Type 0
CalmCall v r (sample xs) = Without12 (CalmReply v) (sample_reply r xs)
CalmCall v r reset = Without12 (λ done. Unit {0}) (reset_reply r)
CalmCall v r (read offset) = Without12 (λ byte. Unit {0}) (read_reply r offset)
CalmCall v r (write offset byte) = Without12 (λ done. Unit {0}) (write_reply r offset)

-- a record with no latch, and with the flags of a new start and a new trip not raised
pub record Still (r : Relay) : Type 0 where
  pub no_latch : (l : System) → (element_of r.trip l).latch ≡ false
  pub no_start_flag : (bits_of r.events.flags).b0 ≡ false
  pub no_trip_flag : (bits_of r.events.flags).b1 ≡ false

-- Start a relay on any setting that it can be started on, and take every list of sample and reset calls, reads and writes, refused ones
-- included. Where each accepted set is that of a healthy bank, no record of the list, the first included, has a latch or a flag of a start or trip, and
-- every answer is calm: nothing starts, nothing trips, and D keeps its limit.
unfoldable pub Stability : Type 0
Stability = (v : Setting) → T (startable v) → (cs : List Call) → Each (HealthyCall v) cs → Every Still (CalmCall v) (fresh v) cs
