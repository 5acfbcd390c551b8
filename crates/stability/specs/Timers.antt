-- Sums and trips of the overcurrent elements over lists of calls from a fresh relay (§ Backup overcurrent). Which sets were measured, and at what j, is
-- told from the sets filed, and not from the record.
use Rattle.std.specs.Prelude.{◌≡◌, ◌↔◌, Bool, true, ◌&&◌, cond, ℕ, ◌*◌, ◌<◌, min, T, ℤ}
use mathlib.Core.List.{List, [], ◌∷◌, foldl}
use Rattle.refusal.specs.Refusals.{Outcome, gives, declines}
use Rattle.setting.specs.declared.Setting.{Setting}
use Rattle.setting.specs.Values.{startable}
use Rattle.inverse_time.specs.declared.Timer.{Timer}
use Rattle.inverse_time.specs.declared.curves.Curve.{Curve}
use Rattle.inverse_time.specs.Curves.{curve_of}
use Rattle.inverse_time.specs.Timers.{multiple, most_sum, idle}
use Rattle.overcurrent.specs.Ends.{timer_of, per_end, timed, trips_of}
use Rattle.overcurrent.specs.Watching.{largest}
use Rattle.inverse_time.specs.Rows.{grown, Reached}
use Rattle.state.specs.declared.Window.{Window}
use Rattle.state.specs.State.{full}
use Rattle.relay.specs.declared.Answer.{Answer}
use Rattle.relay.specs.declared.Answer.TheVariants.{Filling, Measured}
use Rattle.relay.specs.declared.Relay.{Relay}
use Rattle.relay.specs.Record.{fresh}
use Rattle.relay.specs.Calls.{accepted, window_after, sample_reply}
use Rattle.relay.specs.Page.{resets}
use Rattle.relay.specs.Lists.{Call, sample, reset, read, write, run, Every}
use Rattle.stability.specs.Lists.{filing, last12, window_of}

-- whether an end has its element in use, and the curve of a setting
abbrev pub timed_at : Setting → (z : ℕ) → Bool
timed_at v z = timed v.ends v.overcurrent.curve z

abbrev pub curve_at : Setting → Curve
curve_at v = curve_of v.overcurrent.curve

-- j of an end by a full window
abbrev pub multiple_at : Setting → Window → (z : ℕ) → ℕ
multiple_at v w z = multiple v.overcurrent.pickup (largest w.values z)

-- ---- demand 2

-- The course of a list of calls: the sets filed, in order; and of the sets measured since the last reset, newest first, the j of an end.
pub record Course : Type 0 where
  pub sets : List (List ℤ)
  pub multiples : List ℕ

-- What a call makes of the latter, with the sets filed by then. An accepted set is measured where the window of the last twelve, itself the newest, is full.
-- A declined set is passed over, and so are reads and writes. A reset starts anew, by call or by page.
abbrev pub multiples_since : Setting → (z : ℕ) → List (List ℤ) → List ℕ → Call → List ℕ
multiples_since v z ws js (sample xs) = cond (accepted v xs && full (window_of (last12 ws))) (multiple_at v (window_of (last12 ws)) z ∷ js) js
multiples_since v z ws js reset = []
multiples_since v z ws js (read offset) = js
multiples_since v z ws js (write offset byte) = cond (resets offset byte) [] js

abbrev pub coursing : Setting → (z : ℕ) → Course → Call → Course
coursing v z t c = record { sets = filing v t.sets c; multiples = multiples_since v z (filing v t.sets c) t.multiples c }

abbrev pub course : Setting → (z : ℕ) → List Call → Course
course v z cs = foldl (coursing v z) (record { sets = []; multiples = [] }) cs

-- the sum and the trip of an end after a list of calls
abbrev pub timer_at : Setting → (z : ℕ) → List Call → Timer
timer_at v z cs = timer_of (run (fresh v) cs).backup z

-- After any list of calls the sum of an end whose element is in use is what its measured sets in a row have grown by up to now, since the last reset, at
-- most 1,000,000,000; at any other end it is 0.
unfoldable pub Summed : Type 0
Summed =
    (v : Setting) → T (startable v) → (cs : List Call) (z : ℕ) →
    (timer_at v z cs).sum ≡ cond (timed_at v z) (min most_sum (grown (curve_at v) (course v z cs).multiples)) 0

-- And its element is tripped exactly when it is in use and that was reached at some set since the last reset.
unfoldable pub TimerTripped : Type 0
TimerTripped =
    (v : Setting) → T (startable v) → (cs : List Call) (z : ℕ) →
    ((timer_at v z cs).trip ≡ true) ↔ (T (timed_at v z) × Reached (curve_at v) (course v z cs).multiples)

-- ---- for planners: no element trips while every A in the list stays below 1.1·X

-- at a measured set each A of an end whose element is in use is below 1.1·X
abbrev pub BelowPickUp : Setting → Relay → Call → Type 0
BelowPickUp v r (sample xs) =
    let w = window_after r xs in
    T (accepted v xs) → T (full w) → (z : ℕ) → T (timed_at v z) → 10 * largest w.values z < 11 * v.overcurrent.pickup
BelowPickUp v r reset = Unit {0}
BelowPickUp v r (read offset) = Unit {0}
BelowPickUp v r (write offset byte) = Unit {0}

-- no sum, and no trip in the record or in a Measured answer
abbrev pub Unsummed : Relay → Type 0
Unsummed r = r.backup ≡ per_end (λ z. idle)

abbrev pub UntrippedReply : Outcome Answer → Type 0
UntrippedReply (gives (Filling n)) = Unit {0}
UntrippedReply (gives (Measured ms trips)) = trips ≡ trips_of (per_end (λ z. idle))
UntrippedReply (declines told) = Unit {0}

abbrev pub UntrippedCall : Relay → Call → Type 0
UntrippedCall r (sample xs) = UntrippedReply (sample_reply r xs)
UntrippedCall r reset = Unit {0}
UntrippedCall r (read offset) = Unit {0}
UntrippedCall r (write offset byte) = Unit {0}

unfoldable pub NoneTrips : Type 0
NoneTrips = (v : Setting) → T (startable v) → (cs : List Call) → Every (λ r. Unit {0}) (BelowPickUp v) (fresh v) cs → Every Unsummed UntrippedCall (fresh v) cs
