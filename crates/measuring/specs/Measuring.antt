-- What is measured of a full window (§ Amplitudes, § Characteristic and trip). D, R, H2 and H5 are in thousandths of reference current.
use Rattle.std.specs.Prelude.{◌≡◌, Bool, ◌&&◌, ◌||◌, cond, List, ℕ, zero, suc, ◌+◌, eqb, ℤ}
use Rattle.setting.specs.declared.Setting.{Setting}
use Rattle.matching.specs.Sets.{System, sys_a, sys_b, sys_c}
use Rattle.amplitude.specs.Amplitude.{amplitude}
use Rattle.characteristic.specs.declared.Currents.{Currents}
use Rattle.characteristic.specs.Characteristic.{starts, has_harmonics, holds_back, common_on}
use Rattle.measuring.specs.declared.Reading.{Reading}
use Rattle.systems.specs.declared.Systems.{Systems}
use Rattle.measuring.specs.Window.{series, sums, difference}

-- D, H2 and H5 are the amplitudes for h = 1, 2, 5 of the sum of the matched numbers over the ends in use (§ Amplitudes 6).
abbrev pub differential : Setting → List ℤ → System → ℕ
differential v win l = amplitude 1 (sums v.ends win l)

abbrev pub second : Setting → List ℤ → System → ℕ
second v win l = amplitude 2 (sums v.ends win l)

abbrev pub fifth : Setting → List ℤ → System → ℕ
fifth v win l = amplitude 5 (sums v.ends win l)

-- f 0 + .. + f (n - 1)
abbrev pub sumℕ : ℕ → (ℕ → ℕ) → ℕ
sumℕ zero f = 0
sumℕ (suc n) f = sumℕ n f + f n

-- R is twice the restraint: for E = 2 the h = 1 amplitude of end 0 minus end 1; else the sum of each end's (§ Amplitudes 7).
unfoldable pub twice_restraint : (ends : ℕ) → List ℤ → System → ℕ
twice_restraint E win l = cond (eqb E 2) (amplitude 1 (difference win l)) (sumℕ E (λ z. amplitude 1 (series win z l)))

abbrev pub start : Setting → List ℤ → System → Bool
start v win l = starts v (differential v win l) (twice_restraint v.ends win l)

-- whether it has harmonics, and whether it holds back others under common blocking
unfoldable pub harmonics : Setting → List ℤ → System → Bool
harmonics v win l = has_harmonics v (differential v win l) (second v win l) (fifth v win l)

unfoldable pub holding : Setting → List ℤ → System → Bool
holding v win l = holds_back v (differential v win l) (second v win l) (fifth v win l)

-- It is blocked when it has harmonics, or, with common blocking, when any system holds back others (§ Characteristic and trip 3). One that does has
-- harmonics and is blocked too.
unfoldable pub blocked : Setting → List ℤ → System → Bool
blocked v win l = harmonics v win l || (common_on v && (holding v win sys_a || (holding v win sys_b || holding v win sys_c)))

-- the four currents of a system, which take no more of a setting than its number of ends
unfoldable pub currents_of : (ends : ℕ) → List ℤ → System → Currents
currents_of E win l =
    let u = sums E win l in record { d = amplitude 1 u; r = twice_restraint E win l; h2 = amplitude 2 u; h5 = amplitude 5 u }

-- what is reported of a system, but for its latch
unfoldable pub reading_of : Setting → List ℤ → System → Reading
reading_of v win l =
    record {
      d = differential v win l;
      r = twice_restraint v.ends win l;
      h2 = second v win l;
      h5 = fifth v win l;
      start = start v win l;
      blocked = blocked v win l;
    }

unfoldable pub readings_of : Setting → List ℤ → Systems Reading
readings_of v win = record { a = reading_of v win sys_a; b = reading_of v win sys_b; c = reading_of v win sys_c }

-- from its currents: the readings of any window that has them
abbrev pub ReadingsBy : Setting → (a b c : Currents) → Systems Reading → Type 0
ReadingsBy v a b c r =
    (win : List ℤ) → a ≡ currents_of v.ends win sys_a → b ≡ currents_of v.ends win sys_b → c ≡ currents_of v.ends win sys_c → r ≡ readings_of v win
