-- A healthy bank (§ A healthy bank), and the bound that its sets have.
use Rattle.std.specs.Prelude.{◌≡◌, Bool, true, false, List, ℕ, ◌*◌, ◌-◌, ◌%◌, ◌≤◌, ◌<◌, T, ℤ, pos, ◌+ℤ◌, ◌*ℤ◌}
use Rattle.integer.specs.Within.{◌within◌}
use Rattle.integer.specs.Nearest.{Near}
use Rattle.integer.specs.Sum.{sum}
use Rattle.setting.specs.declared.Setting.{Setting}
use Rattle.setting.specs.Values.{end_of, factor_top, factor_under, startable}
use Rattle.matching.specs.declared.Three.{Three}
use Rattle.matching.specs.Matching.{Quotient, operation, even, sum3}
use Rattle.matching.specs.Sets.{System, seen, phases, filtered, matched_at}

-- ---- the ideal line current of a phase, step by step; a phase sees the limbs as its system does. It is in thousandths of a unit: up to `ideal` in that of
-- w, from `over_k` on in that of the end's samples.

-- T(12 − g) of w (T(0) for g = 0), 1351/2340 times at odd groups (§ A healthy bank 4). So T(12 − g), and after it the T(g)
-- of the matching, gives back the number: 1351/2340 is 1351/780 over 3, so that 780/1351 of it is 1/3, and a difference of two such differences is three
-- times the number, where the three sum to zero.
unfoldable pub line_current : (isEven : Bool) → ℕ → Three → Quotient
line_current true g w = record { top = operation ((12 - g) % 12) w.p w.n w.q; under = 1 }
line_current false g w = record { top = pos 1351 *ℤ operation ((12 - g) % 12) w.p w.n w.q; under = 2340 }

-- one third of s more
abbrev pub plus_third : Quotient → ℤ → Quotient
plus_third i s = record { top = pos 3 *ℤ i.top +ℤ pos i.under *ℤ s; under = 3 * i.under }

-- With the filter off, an odd group gains one third of the sum of w over the limbs (§ A healthy bank 5).
unfoldable pub gained : (isEven filter : Bool) → Quotient → (s : ℤ) → Quotient
gained true f i s = i
gained false true i s = i
gained false false i s = plus_third i s

-- the ideal current before it is divided by k
unfoldable pub ideal : (isEven filter : Bool) → ℕ → Three → Quotient
ideal e f g w = gained e f (line_current e g w) (sum3 w)

-- divided by k = N/B (§ A healthy bank 6)
abbrev pub over_k : (N B : ℕ) → Quotient → Quotient
over_k N B i = record { top = pos B *ℤ i.top; under = i.under * N }

-- the common number c, added (§ A healthy bank 7)
abbrev pub plus_common : Quotient → ℤ → Quotient
plus_common i c = record { top = i.top +ℤ pos i.under *ℤ c; under = i.under }

abbrev pub ideal_current : (isEven filter : Bool) (g N B : ℕ) (w : Three) (c : ℤ) → Quotient
ideal_current e f g N B w c = plus_common (over_k N B (ideal e f g w)) c

-- a sample of x units lies within 1/2 of i thousandths of a unit (§ A healthy bank 8)
abbrev pub NearIdeal : Quotient → ℤ → Type 0
NearIdeal i x = Near x i.top (1000 * i.under)

-- The set xs holds, within half a unit per sample, the currents of a healthy bank of the setting v. A field that is a number, w or common, reads: there
-- are such numbers.
pub record Healthy (v : Setting) (xs : List ℤ) : Type 0 where
  -- there are whole numbers w, by end and limb A, B, C, in thousandths of a unit: that of a sample where k is 1, a thousandth of reference current
  -- (§ A healthy bank 1)
  pub w : ℕ → Three
  -- they sum to zero over the ends for each limb (§ A healthy bank 2)
  pub over_ends : (l : System) → sum v.ends (λ z. (seen l (w z)).p) ≡ pos 0
  -- and over the limbs at each end with the filter on; with the filter off they may sum to anything (§ A healthy bank 3)
  pub over_limbs : (z : ℕ) → z < v.ends → filtered (end_of v z) ≡ true → sum3 (w z) ≡ pos 0
  -- one more whole number at each end with the filter on, the same on its three phases, in thousandths of a sample's unit there (§ A healthy bank 7)
  pub common : ℕ → ℤ
  pub unfiltered : (z : ℕ) → z < v.ends → filtered (end_of v z) ≡ false → common z ≡ pos 0
  -- each sample of an end in use lies within 1/2 of its ideal (§ A healthy bank 8)
  pub near : (z : ℕ) → z < v.ends → (l : System) →
      let e = end_of v z in
      let i = ideal_current (even e.group) (filtered e) e.group (factor_top e) (factor_under v) (seen l (w z)) (common z) in
      NearIdeal i (seen l (phases xs z)).p
  -- others are zero
  pub others : (z : ℕ) → v.ends ≤ z → z < 4 → (l : System) → (seen l (phases xs z)).p ≡ pos 0

-- no sample of an end in use beyond ±32,000
abbrev pub InReach : Setting → List ℤ → Type 0
InReach v xs = (z : ℕ) → z < v.ends → (l : System) → (seen l (phases xs z)).p within 32000

-- the sum of the matched numbers over the ends in use, in thousandths of reference current
unfoldable pub total : Setting → List ℤ → System → ℤ
total v xs l = sum v.ends (λ z. matched_at v xs z l)

-- For a setting that a relay can be started on and a set of a healthy bank, the sum over the ends is within 13·E for each system.
unfoldable pub TotalBound : Type 0
TotalBound = (v : Setting) → T (startable v) → (xs : List ℤ) → InReach v xs → Healthy v xs → (l : System) → total v xs l within (13 * v.ends)

-- For any accepted samples of such a setting, each matched number is within 761,874.
unfoldable pub MatchedBound : Type 0
MatchedBound =
    (v : Setting) → T (startable v) → (xs : List ℤ) → InReach v xs → (z : ℕ) → z < v.ends → (l : System) → matched_at v xs z l within 761874
