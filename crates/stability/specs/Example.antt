-- A relay that trips, beside demand 3: the setting and the sets of the bench run (§ Numbers to meet), after which system 1 alone is latched; so they are
-- not those of a healthy bank. And the case of card 4, a fault beside an unloaded phase, which trips alike.
use Rattle.std.specs.Prelude.{◌≡◌, refl, Bool, true, false, List, [], ◌∷◌, ◌++◌, pos, ◌*ℤ◌, replicate}
use Rattle.bits.specs.Bits.{bits_of, mask_of}
use Rattle.page.specs.Events.{raised}
use Rattle.setting.specs.declared.Setting.{Setting}
use Rattle.setting.specs.Values.{startable, factor, factor_high, factors_low, start_rows}
use Rattle.setting.specs.Worked.{plain, flagged}
use Rattle.integer.specs.Nearest.{nearest_away, nearest, floor}
use Rattle.integer.specs.Root.{root_by}
use Rattle.integer.specs.Sum.{sum}
use Rattle.lists.specs.Lists.{up_to}
use Rattle.lists.specs.Tests.{Each}
use Rattle.integer.specs.Within.{eq_z}
use Rattle.matching.specs.Matching.{operation, operated, matched}
use Rattle.matching.specs.Sets.{System, sys_a, sys_b, sys_c, seen, matched_at, numbers}
use Rattle.amplitude.specs.Amplitude.{t, weighted_sum, cycle, amplitude}
use Rattle.characteristic.specs.Characteristic.{starts, has_harmonics, holds_back}
use Rattle.measuring.specs.Measuring.{twice_restraint, harmonics, holding, blocked, reading_of, readings_of}
use Rattle.measuring.specs.Unloaded.{ripple}
use Rattle.overcurrent.specs.Ends.{backup_after}
use Rattle.overcurrent.specs.Watching.{backup_by}
use Rattle.state.specs.State.{element_of, element_after, window_with}
use Rattle.relay.specs.Record.{fresh, admissible}
use Rattle.relay.specs.Calls.{set_rows, sample_rows, backup_now, relay_now}
use Rattle.relay.specs.Lists.{Call, sample, run}
use Rattle.stability.specs.Stability.{HealthyCall}

-- twelve zero sets but for 3,000 on phase A of end 0 in the last
pub fault : List Call
fault = replicate 11 (sample (replicate 12 (pos 0))) ++ (sample (pos 3000 ∷ replicate 11 (pos 0)) ∷ [])

-- at end 0, twice the constants t (§ Amplitudes 2) on phase A, and D 0 and H2 1 on phase B
pub beside : List Call
beside = up_to 12 (λ k. sample ((pos 2 *ℤ t k) ∷ ripple k ∷ replicate 10 (pos 0)))

unfoldable pub latch_after : Setting → List Call → System → Bool
latch_after v cs l = (element_of (run (fresh v) cs).trip l).latch

-- whether a relay can be started on a setting, and whether systems 1, 2, 3 are latched after these calls on it
unfoldable pub tripped : Setting → List Call → List Bool
tripped v cs = startable v ∷ latch_after v cs sys_a ∷ latch_after v cs sys_b ∷ latch_after v cs sys_c ∷ []

-- each of the two trips system 1 alone, the second with second-harmonic and common blocking on
pub fault_trips : tripped plain fault ∷ tripped (flagged 5) beside ∷ [] ≡ (true ∷ true ∷ false ∷ false ∷ []) ∷ (true ∷ true ∷ false ∷ false ∷ []) ∷ []
unfolding plain flagged fault beside ripple tripped latch_after factor factor_high factors_low start_rows nearest_away nearest floor root_by sum up_to
    operation operated matched seen matched_at numbers t weighted_sum cycle amplitude twice_restraint harmonics holding blocked starts has_harmonics
    holds_back element_after fresh admissible window_with set_rows sample_rows backup_after backup_by backup_now relay_now eq_z raised bits_of mask_of reading_of readings_of
fault_trips = refl

-- not each of these sets is that of a healthy bank
unfoldable pub FaultUnhealthy : Type 0
FaultUnhealthy = Each (HealthyCall plain) fault → ⊥
