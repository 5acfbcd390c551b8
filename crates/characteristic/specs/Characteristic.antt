-- The characteristic (§ Characteristic and trip; source 001, 2.3) and harmonic blocking (source 002). D, R, H2, H5, P, H and Q are in thousandths of
-- reference current, and R is twice the restraint.
use Rattle.std.specs.Prelude.{Bool, ◌&&◌, ◌||◌, not, ℕ, ◌+◌, ◌*◌, ◌-◌, ◌/◌, ◌%◌, leb, ltb, eqb}
use Rattle.setting.specs.declared.Setting.{Setting}
use Rattle.setting.specs.declared.Thresholds.{Thresholds}
use Rattle.characteristic.specs.declared.Held.{Held}

-- flags (§ The setting block): bit 0 second-harmonic blocking, bit 1 fifth, bit 2 common blocking
abbrev pub second_on : Setting → Bool
second_on v = eqb (v.flags % 2) 1

abbrev pub fifth_on : Setting → Bool
fifth_on v = eqb (v.flags / 2 % 2) 1

abbrev pub common_on : Setting → Bool
common_on v = eqb (v.flags / 4 % 2) 1

-- The three sections, with R twice the restraint (§ Characteristic and trip 1): a system starts when R ≤ P and D > P;
abbrev pub first_section : Thresholds → (D R : ℕ) → Bool
first_section t D R = leb R t.basic && ltb t.basic D

-- or P < R ≤ 2Q and 200·D > 200·P + m1·(R − P);
abbrev pub second_section : Thresholds → (D R : ℕ) → Bool
second_section t D R = ltb t.basic R && (leb R (2 * t.knee) && ltb (200 * t.basic + t.slope1 * (R - t.basic)) (200 * D))

-- or R > 2Q and 200·D > 200·P + m1·(2Q − P) + m2·(R − 2Q).
abbrev pub third_section : Thresholds → (D R : ℕ) → Bool
third_section t D R =
    ltb (2 * t.knee) R && ltb (200 * t.basic + t.slope1 * (2 * t.knee - t.basic) + t.slope2 * (R - 2 * t.knee)) (200 * D)

unfoldable pub starts : Setting → (D R : ℕ) → Bool
starts v D R = first_section v.thresholds D R || (second_section v.thresholds D R || third_section v.thresholds D R)

-- It has harmonics when the second is on and 100·H2 > its percent times D, or likewise the fifth (§ Characteristic and trip 2).
unfoldable pub has_harmonics : Setting → (D H2 H5 : ℕ) → Bool
has_harmonics v D H2 H5 = (second_on v && ltb (v.thresholds.second * D) (100 * H2)) || (fifth_on v && ltb (v.thresholds.fifth * D) (100 * H5))

-- Under common blocking it holds back others exactly when it has harmonics and its own D exceeds P (§ Characteristic and trip 3).
unfoldable pub holds_back : Setting → (D H2 H5 : ℕ) → Bool
holds_back v D H2 H5 = has_harmonics v D H2 H5 && ltb v.thresholds.basic D

-- what its harmonics hold back: itself, and others
unfoldable pub held_by : Setting → (D H2 H5 : ℕ) → Held
held_by v D H2 H5 = record { own = has_harmonics v D H2 H5; others = holds_back v D H2 H5 }

-- It counts when it starts and is not blocked, or when D > H (§ Characteristic and trip 4).
abbrev pub counts : Setting → (D : ℕ) (start blocked : Bool) → Bool
counts v D start blocked = (start && not blocked) || ltb v.thresholds.high D
