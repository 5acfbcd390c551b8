-- The case of card 4 (§ Characteristic and trip 3), worked out: a fault on phase A beside a phase B with little or no D. P is 200, the percents of the
-- harmonics are 15 and 30; of the flags, 1 is second-harmonic blocking, 2 fifth, 4 common.
use Rattle.std.specs.Prelude.{◌≡◌, refl, Bool, cond, List, [], ◌∷◌, map, ℕ, ◌%◌, eqb, ℤ, pos, negsuc, ◌*ℤ◌}
use Rattle.integer.specs.Nearest.{nearest_away, nearest, floor}
use Rattle.integer.specs.Root.{root_by}
use Rattle.integer.specs.Sum.{sum}
use Rattle.lists.specs.Lists.{up_to}
use Rattle.setting.specs.Worked.{plain, flagged}
use Rattle.matching.specs.Sets.{sys_a, sys_b, sys_c}
use Rattle.amplitude.specs.Amplitude.{t, weighted_sum, cycle, amplitude}
use Rattle.characteristic.specs.Characteristic.{starts, has_harmonics, holds_back}
use Rattle.measuring.specs.Numbers.{window}
use Rattle.measuring.specs.Measuring.{differential, second, twice_restraint, start, harmonics, holding, blocked}

-- the fault, on system 1: twice the constants t (§ Amplitudes 2)
fault : ℕ → ℤ
fault k = pos 2 *ℤ t k

-- on system 2: 1, 0, 0, −1, 0, 0 over and over, which has no first harmonic;
unfoldable pub ripple : ℕ → ℤ
ripple k = cond (eqb (k % 6) 0) (pos 1) (cond (eqb (k % 6) 3) (negsuc 0) (pos 0))

-- or one number and zeros, which has every harmonic alike
pulse : ℤ → ℕ → ℤ
pulse x k = cond (eqb k 0) x (pos 0)

-- D and H2 of system 2; then 1 where system 1 starts; then 1 for each of systems 1, 2, 3 that is blocked
measured : (flags : ℕ) → (ℕ → ℤ) → List ℕ
measured f u =
    let v = flagged f in
    let win = window fault u in
    differential v win sys_b
    ∷ second v win sys_b
    ∷ bit (start v win sys_a)
    ∷ bit (blocked v win sys_a)
    ∷ bit (blocked v win sys_b)
    ∷ bit (blocked v win sys_c)
    ∷ []
  where
    bit : Bool → ℕ
    bit b = cond b 1 0

-- what the definitions give, and what is asked
pub table : List (List ℕ × List ℕ)
table =
    -- D 0 and H2 1 blocks its own system, and does not hold back the fault;
    (measured 5 ripple, 0 ∷ 1 ∷ 1 ∷ 0 ∷ 1 ∷ 0 ∷ [])
    -- nor does a D of P;
    ∷ (measured 5 (pulse (pos 1200)), 200 ∷ 200 ∷ 1 ∷ 0 ∷ 1 ∷ 0 ∷ [])
    -- a D above P holds back all, by the second harmonic and by the fifth;
    ∷ (measured 5 (pulse (pos 1206)), 201 ∷ 201 ∷ 1 ∷ 1 ∷ 1 ∷ 1 ∷ [])
    ∷ (measured 6 (pulse (pos 1206)), 201 ∷ 201 ∷ 1 ∷ 1 ∷ 1 ∷ 1 ∷ [])
    -- but not with common blocking off
    ∷ (measured 1 (pulse (pos 1206)), 201 ∷ 201 ∷ 1 ∷ 0 ∷ 1 ∷ 0 ∷ [])
    ∷ []

pub unloaded_met : map (λ r. r.0) table ≡ map (λ r. r.1) table
unfolding table measured flagged plain window fault ripple pulse up_to blocked harmonics holding holds_back has_harmonics starts twice_restraint
    amplitude cycle weighted_sum t sum nearest_away nearest floor root_by
unloaded_met = refl
