-- Starting, sample and reset (§ The order of refusals 5, 6 and 7; § The relay record; § Characteristic and trip).
use Rattle.std.specs.Prelude.{◌≡◌, Bool, not, ◌&&◌, ◌||◌, cond, List, [], ◌∷◌, ◌*◌, leb, eqb, ℤ, pos, nat_abs, length, drop}
use Rattle.lists.specs.Tests.{each}
use Rattle.integer.specs.Within.{eq_z}
use Rattle.refusal.specs.Refusals.{Told, Outcome, outcome_of, by_outcome, Row, ◌when◌, first_of, none_applies, first_refusal}
use Rattle.setting.specs.declared.Setting.{Setting}
use Rattle.setting.specs.Values.{start_rows}
pub use Rattle.setting.specs.Worked.{blank}
use Rattle.matching.specs.Sets.{System, sys_a, sys_b, sys_c, numbers}
use Rattle.bits.specs.declared.Bits.{Bits}
use Rattle.state.specs.declared.Element.{Element}
use Rattle.inverse_time.specs.declared.Timer.{Timer}
use Rattle.systems.specs.declared.Systems.{Systems}
use Rattle.state.specs.declared.Window.{Window}
use Rattle.relay.specs.declared.Relay.{Relay}
use Rattle.relay.specs.declared.Measure.{Measure}
use Rattle.relay.specs.declared.Answer.{Answer}
use Rattle.relay.specs.declared.Answer.TheVariants.{Filling, Measured}
use Rattle.relay.specs.declared.Returned.{Returned}
use Rattle.characteristic.specs.Characteristic.{counts}
use Rattle.measuring.specs.Measuring.{differential, start, blocked, reading_of}
use Rattle.state.specs.State.{element_of, per_system, element_after, clear, latches_of, window_with, full}
use Rattle.systems.specs.declared.Ends.{Ends}
use Rattle.inverse_time.specs.Timers.{idle}
use Rattle.overcurrent.specs.Ends.{per_end, trips_of}
use Rattle.overcurrent.specs.Watching.{backup_by}
use Rattle.page.specs.declared.Events.{Events}
use Rattle.page.specs.Events.{new_flags, refused_set, raised}
use Rattle.page.specs.Page.{starts_of, shown}
use Rattle.relay.specs.Record.{fresh, admissible, with_events}

-- ---- which sets are accepted

-- 14: a set not of 12 numbers
abbrev pub twelve : List ℤ → Bool
twelve xs = eqb (length xs) 12

-- 10: a sample beyond ±32,000
abbrev pub in_reach : List ℤ → Bool
in_reach xs = each (λ x. leb (nat_abs x) 32000) xs

-- 11: a sample of an unused end not zero
abbrev pub unused_zero : Setting → List ℤ → Bool
unused_zero v xs = each (λ x. eq_z x (pos 0)) (drop (3 * v.ends) xs)

-- what a set is declined with, in order: 14, 10, 11
unfoldable pub set_rows : Setting → List ℤ → List Row
set_rows v xs = (14 when not (twelve xs)) ∷ (10 when not (in_reach xs)) ∷ (11 when not (unused_zero v xs)) ∷ []

-- A set is accepted when it has 12 numbers, none beyond ±32,000, and zero at every unused end (§ The relay record 2).
abbrev pub accepted : Setting → List ℤ → Bool
accepted v xs = none_applies (set_rows v xs)

-- the sample call declines with 12, then as the set is
unfoldable pub sample_rows : Relay → List ℤ → List Row
sample_rows r xs = (12 when not (admissible r)) ∷ set_rows r.setting xs

-- ---- the sample call

-- the window with the set's matched numbers filed (§ The relay record 3)
abbrev pub window_after : Relay → List ℤ → Window
window_after r xs = window_with r.window (numbers r.setting xs)

-- whether a system counts; at a set that answers Filling none does
abbrev pub counting : Setting → Window → System → Bool
counting v w l = full w && counts v (differential v w.values l) (start v w.values l) (blocked v w.values l)

abbrev pub element_now : Relay → Window → System → Element
element_now r w l = element_after r.setting.confirm (counting r.setting w l) (element_of r.trip l)

abbrev pub trip_now : Relay → Window → Systems Element
trip_now r w = per_system (element_now r w)

-- D, R (twice the restraint), H2, H5, start, blocked and latched of a system
abbrev pub measure_now : Relay → Window → System → Measure
measure_now r w l = record { reading = reading_of r.setting w.values l; latched = (element_now r w l).latch }

abbrev pub measures_now : Relay → Window → Systems Measure
measures_now r w = record { a = measure_now r w sys_a; b = measure_now r w sys_b; c = measure_now r w sys_c }

-- sums and trips of the overcurrent elements: while the window fills they stay (§ Backup overcurrent 6)
unfoldable pub backup_now : Relay → Window → Ends Timer
backup_now r w = cond (full w) (backup_by r.setting w.values r.backup) r.backup

-- An accepted set answers Filling with the number held, or Measured (§ The relay record 4), which carries these trips apart from the latches.
unfoldable pub reply_now : Relay → Window → Answer
reply_now r w = cond (full w) (Measured (measures_now r w) (trips_of (backup_now r w))) (Filling w.fill)

-- ---- the record after it, with the flags that it raises (§ The register page 2)

-- the systems that start by a window of the record's setting
abbrev pub starts_by : Relay → Window → Bits
starts_by r w = starts_of (shown r.setting w)

-- an accepted set raises what is new by the masks of the record that came in, and of the one that is left
abbrev pub flags_now : Relay → Window → Bits
flags_now r w = new_flags (starts_by r r.window) (starts_by r w) (latches_of r.trip) (latches_of (trip_now r w))

abbrev pub events_now : Relay → Window → Events
events_now r w = raised (flags_now r w) r.events

unfoldable pub relay_now : Relay → Window → Relay
relay_now r w = record { setting = r.setting; window = w; trip = trip_now r w; events = events_now r w; backup = backup_now r w }

-- a refused set raises flag bit 2, and leaves all else of the record as before (§ The register page 3)
unfoldable pub refused_relay : Relay → Relay
refused_relay r = with_events r (raised refused_set r.events)

-- 10, 11 and 14 are the refusals of a set
abbrev pub of_set : Told → Bool
of_set told = eqb told.number 10 || (eqb told.number 11 || eqb told.number 14)

-- what is left at a refusal: with 12 the record stays as it was
abbrev pub left_at : Relay → Told → Relay
left_at r told = cond (of_set told) (refused_relay r) r

-- ---- the sample call's answer, and the record that it leaves

abbrev pub sample_reply : Relay → List ℤ → Outcome Answer
sample_reply r xs = first_of (sample_rows r xs) (reply_now r (window_after r xs))

abbrev pub sample_relay : Relay → List ℤ → Relay
sample_relay r xs = by_outcome (sample_reply r xs) (left_at r) (λ reply. relay_now r (window_after r xs))

-- an answer and a record
pub record Gives {A : Type 0} (o : Outcome A) (after : Relay) (s : Returned A) : Type 0 where
  pub reply : outcome_of s.answer ≡ o
  pub relay : s.relay ≡ after

abbrev pub Samples : Relay → List ℤ → Returned Answer → Type 0
Samples r xs s = Gives (sample_reply r xs) (sample_relay r xs) s

-- ---- reset: 12; it clears counters and latches, not the window; flags and interrupt mask stay; it clears overcurrent sums and their trips
-- (§ Characteristic and trip 7)

unfoldable pub reset_rows : Relay → List Row
reset_rows r = (12 when not (admissible r)) ∷ []

unfoldable pub cleared : Relay → Relay
cleared r =
    record { setting = r.setting; window = r.window; trip = per_system (λ l. clear); events = r.events; backup = per_end (λ z. idle) }

abbrev pub reset_reply : Relay → Outcome (Unit {0})
reset_reply r = first_refusal (reset_rows r)

abbrev pub reset_relay : Relay → Relay
reset_relay r = by_outcome (reset_reply r) (λ refusal. r) (λ done. cleared r)

abbrev pub Resets : Relay → Returned (Unit {0}) → Type 0
Resets r s = Gives (reset_reply r) (reset_relay r) s

-- ---- starting a fresh relay from setting values: 4, 5, 17, 6, 7 (§ The order of refusals 5), and then a blank record, on which every call declines

abbrev pub start_reply : Setting → Outcome (Unit {0})
start_reply v = first_refusal (start_rows v)

-- the values that the record holds: blank ones on a refusal
abbrev pub started_on : Setting → Setting
started_on v = by_outcome (start_reply v) (λ refusal. blank) (λ done. v)

abbrev pub Starts : Setting → Returned (Unit {0}) → Type 0
Starts v s = Gives (start_reply v) (fresh (started_on v)) s
