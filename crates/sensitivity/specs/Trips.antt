-- Which faults trip, over lists of calls from a fresh relay (§ Characteristic and trip 4 to 6): those that the last M calls measure.
use Rattle.std.specs.Prelude.{◌≡◌, Bool, true, false, List, ◌++◌, ℕ, ◌<◌, T, ℤ, length}
use Rattle.lists.specs.Tests.{Each}
use Rattle.refusal.specs.Refusals.{Outcome, gives, declines}
use Rattle.setting.specs.declared.Setting.{Setting}
use Rattle.setting.specs.Values.{startable}
use Rattle.matching.specs.Sets.{System, sys_a, sys_b, sys_c}
use Rattle.systems.specs.declared.Systems.{Systems}
use Rattle.characteristic.specs.Characteristic.{second_on, fifth_on}
use Rattle.measuring.specs.OneEnd.{FedFrom}
use Rattle.relay.specs.declared.Measure.{Measure}
use Rattle.relay.specs.declared.Answer.{Answer}
use Rattle.relay.specs.declared.Answer.TheVariants.{Filling, Measured}
use Rattle.relay.specs.declared.Relay.{Relay}
use Rattle.relay.specs.Record.{fresh}
use Rattle.relay.specs.Calls.{sample_reply}
use Rattle.relay.specs.Page.{resets}
use Rattle.relay.specs.Lists.{Call, sample, reset, read, write, after, run, Every}
use Rattle.stability.specs.Trips.{element_at}

-- ---- faults, by the measure of a system and the window that it is of

-- the system is fed from one end, and its D is above P
pub record OneEndFault (v : Setting) (l : System) (win : List ℤ) (m : Measure) : Type 0 where
  pub end : ℕ
  pub fed : FedFrom v.ends win l end
  pub above_P : v.thresholds.basic < m.reading.d

-- such a fault, and no harmonics block the system
pub record UnblockedFault (v : Setting) (l : System) (win : List ℤ) (m : Measure) : Type 0 where
  pub fault : OneEndFault v l win m
  pub not_blocked : m.reading.blocked ≡ false

-- its D is above H, from whichever ends it is fed
abbrev pub HighSetFault : Setting → System → List ℤ → Measure → Type 0
HighSetFault v l win m = v.thresholds.high < m.reading.d

-- ---- calls that measure such a fault

abbrev pub of_system : Systems Measure → System → Measure
of_system ms sys_a = ms.a
of_system ms sys_b = ms.b
of_system ms sys_c = ms.c

-- the answer is Measured, and the system's measure in it is as F says; Filling and a refusal are not
abbrev pub MeasuredAs : (F : Measure → Type 0) → System → Outcome Answer → Type 0
MeasuredAs F l (gives (Measured ms trips)) = F (of_system ms l)
MeasuredAs F l (gives (Filling n)) = ⊥
MeasuredAs F l (declines told) = ⊥

-- a sample call so answered, with the window that its record then holds; no other call
abbrev pub Measures : (F : List ℤ → Measure → Type 0) → System → Relay → Call → Type 0
Measures F l r (sample xs) = MeasuredAs (F (after r (sample xs)).window.values) l (sample_reply r xs)
Measures F l r reset = ⊥
Measures F l r (read offset) = ⊥
Measures F l r (write offset byte) = ⊥

-- ---- the trips

-- After any list of calls whose last M each measure a fault of the system, it is latched.
abbrev pub LatchedAfter : (v : Setting) → (Fault : System → List ℤ → Measure → Type 0) → Type 0
LatchedAfter v Fault =
    (before faults : List Call) (l : System) → length faults ≡ v.confirm →
    Every (λ r. Unit {0}) (Measures (Fault l) l) (run (fresh v) before) faults → (element_at v l (before ++ faults)).latch ≡ true

-- On every setting that a relay can be started on: M sets of a fault fed from one end, with D above P and not blocked, trip;
unfoldable pub OneEndTrips : Type 0
OneEndTrips = (v : Setting) → T (startable v) → LatchedAfter v (UnblockedFault v)

-- with blocking off (flags 0; or 4, common blocking with nothing to have in common), M sets of such a fault with D above P trip;
unfoldable pub BlockingOffTrips : Type 0
BlockingOffTrips = (v : Setting) → T (startable v) → second_on v ≡ false → fifth_on v ≡ false → LatchedAfter v (OneEndFault v)

-- M sets with D above H trip, from whichever ends they are fed and whatever is blocked.
unfoldable pub HighSetTrips : Type 0
HighSetTrips = (v : Setting) → T (startable v) → LatchedAfter v (HighSetFault v)

-- ---- until a reset

-- a reset, by call or by page
abbrev pub resetting : Call → Bool
resetting (sample xs) = false
resetting reset = true
resetting (read offset) = false
resetting (write offset byte) = resets offset byte

-- A system that is latched stays so through any calls but a reset, whether or not the fault lasts.
unfoldable pub StaysLatched : Type 0
StaysLatched =
    (v : Setting) → T (startable v) → (cs later : List Call) (l : System) → Each (λ c. resetting c ≡ false) later → (element_at v l cs).latch ≡ true →
    (element_at v l (cs ++ later)).latch ≡ true
