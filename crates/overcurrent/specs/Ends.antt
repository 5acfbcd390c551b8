-- The inverse-time elements of the four ends (§ Backup overcurrent).
use Rattle.std.specs.Prelude.{Bool, not, ◌&&◌, cond, List, [], ◌∷◌, ℕ, ◌+◌, ◌*◌, ◌≤◌, max, leb, ltb, eqb, T, get_or}
use Rattle.lists.specs.Tests.{hold}
use Rattle.inverse_time.specs.declared.Timer.{Timer}
use Rattle.inverse_time.specs.Curves.{curve_of}
use Rattle.inverse_time.specs.Timers.{multiple, most_sum, timer_after, idle}
use Rattle.systems.specs.declared.Ends.{Ends}

abbrev pub timer_of : Ends Timer → ℕ → Timer
timer_of b z = get_or (b.e0 ∷ b.e1 ∷ b.e2 ∷ b.e3 ∷ []) z idle

-- something of each end
abbrev pub per_end : (ℕ → Timer) → Ends Timer
per_end f = record { e0 = f 0; e1 = f 1; e2 = f 2; e3 = f 3 }

-- an end has its element in use: the curve is not 0, and the end is one of E
abbrev pub timed : (ends curve z : ℕ) → Bool
timed E curve z = not (eqb curve 0) && ltb z E

-- what a measured set makes of them, A being the largest amplitude of each end: at curve 0 none moves, and at ends that are not in use only a reset
-- changes sum or trip (§ Backup overcurrent 6)
unfoldable pub backup_after : (ends curve X : ℕ) (A : ℕ → ℕ) → Ends Timer → Ends Timer
backup_after E curve X A b =
    per_end (λ z. cond (timed E curve z) (timer_after (curve_of curve) (multiple X (A z)) (timer_of b z)) (timer_of b z))

abbrev pub trips_of : Ends Timer → Ends Bool
trips_of b = record { e0 = b.e0.trip; e1 = b.e1.trip; e2 = b.e2.trip; e3 = b.e3.trip }

-- ---- refusal 12, in part: no larger sum

abbrev pub sum_within : Timer → Bool
sum_within t = leb t.sum most_sum

abbrev pub sums_within : Ends Timer → List Bool
sums_within b = sum_within b.e0 ∷ sum_within b.e1 ∷ sum_within b.e2 ∷ sum_within b.e3 ∷ []

-- ---- what the code takes

-- A of an end from the amplitudes of the ends, number 3·z + y that of end z and system y
abbrev pub largest_in : List ℕ → (z : ℕ) → ℕ
largest_in a z = max (get_or a (3 * z) 0) (max (get_or a (3 * z + 1) 0) (get_or a (3 * z + 2) 0))

pub record BackupInput (curve X : ℕ) (a : List ℕ) (b : Ends Timer) : Type 0 where
  pub on : 1 ≤ curve
  pub pickup : 1 ≤ X
  pub small : (i : ℕ) → get_or a i 0 ≤ 32000000
  pub sums : T (hold (sums_within b))
