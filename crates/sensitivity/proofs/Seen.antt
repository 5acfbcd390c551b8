-- The fault of specs/Example.antt: that no current comes from another end is one computed test, and so is all else.
use mathlib.Core.Path.{◌≡◌, refl}
use mathlib.Core.Logic.{◌≢◌}
use mathlib.Core.Bool.{Bool, false, ◌||◌}
use mathlib.Core.List.{List}
use Prim.Native.Nat.{ℕ, ◌<◌}
use native.Mathlib.Omega.{arith}
use lib.Dec.{T, ltb, eqb, ltb→lt}
use lib.IntN.{ℤ, pos}
use borrow.Author.Tests.{ne_eqb}
use Rattle.integer.specs.Nearest.{nearest_away, nearest, floor}
use Rattle.integer.specs.Root.{root_by}
use Rattle.integer.specs.Sum.{sum}
use Rattle.integer.specs.Within.{eq_z}
use Rattle.integer.proofs.Laws.{eq_z→≡}
use Rattle.lists.specs.Lists.{up_to}
use Rattle.lists.specs.Tests.{every}
use Rattle.lists.proofs.TestLaws.{every_at}
use Rattle.bits.specs.Bits.{bits_of, mask_of}
use Rattle.setting.specs.declared.Setting.{Setting}
use Rattle.setting.specs.Values.{factor, factor_high, factors_low, start_rows}
use Rattle.matching.specs.Matching.{operation, operated, matched}
use Rattle.matching.specs.Sets.{System, seen, matched_at, numbers}
use Rattle.amplitude.specs.Amplitude.{t, weighted_sum, cycle, amplitude}
use Rattle.characteristic.specs.Characteristic.{starts, has_harmonics, holds_back}
use Rattle.measuring.specs.Window.{at}
use Rattle.measuring.specs.Measuring.{twice_restraint, harmonics, holding, blocked, reading_of, readings_of}
use Rattle.overcurrent.specs.Ends.{backup_after}
use Rattle.overcurrent.specs.Watching.{backup_by}
use Rattle.page.specs.Events.{raised}
use Rattle.state.specs.State.{element_after, window_with}
use Rattle.relay.specs.declared.Measure.{Measure}
use Rattle.relay.specs.Record.{fresh, admissible}
use Rattle.relay.specs.Calls.{set_rows, sample_rows, backup_now, reply_now, relay_now}
use Rattle.sensitivity.specs.Trips.{UnblockedFault}
use Rattle.sensitivity.specs.Example.{steepest, before, faults, SteepestSeen}

module _ (v : Setting) (l : System) (win : List ℤ) (m : Measure) (z : ℕ) where
  abbrev sole : ℕ → ℕ → Bool
  sole k e = eqb e z || eq_z (at win k e l) (pos 0)

  fault_of : T (ltb z v.ends) → T (every 12 (λ k. every v.ends (sole k))) → T (ltb v.thresholds.basic m.reading.d) →
      m.reading.blocked ≡ false → UnblockedFault v l win m
  fault_of used others above free =
      record {
        fault =
            record {
              end = z;
              fed = record { in_use = ltb→lt z v.ends used; others_zero = zero_at };
              above_P = ltb→lt v.thresholds.basic m.reading.d above;
            };
        not_blocked = free;
      }
    where
      zero_at : (k e : ℕ) → k < 12 → e < v.ends → e ≢ z → at win k e l ≡ pos 0
      zero_at k e h u d =
          let t = every_at v.ends (sole k) (every_at 12 (λ k. every v.ends (sole k)) others k h) e u in
          let other : eqb e z ≡ false = ne_eqb e z d in
          eq_z→≡ (at win k e l) (pos 0) (rw other at t)

pub steepest_seen : SteepestSeen
unfolding SteepestSeen steepest before faults factor factor_high factors_low start_rows nearest_away nearest floor root_by sum up_to operation operated matched
    seen matched_at numbers t weighted_sum cycle amplitude twice_restraint harmonics holding blocked starts has_harmonics holds_back element_after fresh
    admissible window_with set_rows sample_rows backup_after backup_by backup_now reply_now relay_now eq_z raised bits_of mask_of reading_of readings_of
steepest_seen = (
  tt,
  refl,
  (tt, (fault_of _ _ _ _ 1 tt tt tt refl, (tt, (fault_of _ _ _ _ 1 tt tt tt refl, tt)))),
  refl,
  omega arith,
)
