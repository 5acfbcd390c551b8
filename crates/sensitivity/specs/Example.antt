-- The theorems are not empty: a fault that they speak of, on the steepest slopes that can be set, fed from the end that is subtracted.
use Rattle.std.specs.Prelude.{◌≡◌, List, [], ◌∷◌, ◌++◌, ℕ, ◌*◌, ◌<◌, T, pos, ◌*ℤ◌, length, replicate}
use Rattle.lists.specs.Lists.{up_to}
use Rattle.setting.specs.declared.Setting.{Setting}
use Rattle.setting.specs.Values.{startable}
use Rattle.setting.specs.Worked.{rated, unused, off}
use Rattle.matching.specs.Sets.{sys_a}
use Rattle.amplitude.specs.Amplitude.{t}
use Rattle.measuring.specs.Measuring.{differential}
use Rattle.relay.specs.Record.{fresh}
use Rattle.relay.specs.Lists.{Call, sample, run, Every}
use Rattle.sensitivity.specs.Trips.{UnblockedFault, Measures}

-- two ends with K 65,536, all blocking on at its lowest percents, M 2, P 100, both slopes 150 percent and Q 1,500
unfoldable pub steepest : Setting
steepest =
    record {
      ends = 2;
      flags = 7;
      confirm = 2;
      power = 1351;
      e0 = rated 780 1000;
      e1 = rated 780 1000;
      e2 = unused;
      e3 = unused;
      thresholds = record { basic = 100; high = 30000; slope1 = 150; slope2 = 150; knee = 1500; second = 10; fifth = 10 };
      overcurrent = off;
    }

-- five times the constants t (§ Amplitudes 2) on phase A of end 1, and no other current
abbrev pub surge : ℕ → Call
surge k = sample (replicate 3 (pos 0) ++ ((pos 5 *ℤ t k) ∷ replicate 8 (pos 0)))

-- eleven such sets; and two more, which are measured
unfoldable pub before : List Call
before = up_to 11 surge

unfoldable pub faults : List Call
faults = surge 11 ∷ surge 0 ∷ []

-- A relay can be started on this setting, and the last two of these calls, as many as its M, each measure such a fault of system 1; R, twice the
-- restraint, is D there and lies in the third section. So the system trips (`OneEndTrips`).
unfoldable pub SteepestSeen : Type 0
SteepestSeen =
    T (startable steepest)
    × (length faults ≡ steepest.confirm)
    × Every (λ r. Unit {0}) (Measures (UnblockedFault steepest sys_a) sys_a) (run (fresh steepest) before) faults
    × (differential steepest (run (fresh steepest) (before ++ faults)).window.values sys_a ≡ 7800)
    × (2 * steepest.thresholds.knee < 7800)
