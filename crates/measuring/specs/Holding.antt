-- Common blocking (§ Characteristic and trip 3): what a system does to the others, told by harmonics and D alone.
use Rattle.std.specs.Prelude.{◌≡◌, ◌≢◌, true, false, List, ℕ, ◌≤◌, ◌<◌, ℤ}
use Rattle.setting.specs.declared.Setting.{Setting}
use Rattle.matching.specs.Sets.{System}
use Rattle.characteristic.specs.Characteristic.{common_on}
use Rattle.measuring.specs.Window.{at}
use Rattle.measuring.specs.Measuring.{differential, harmonics, blocked}

-- with common blocking on, a system that has harmonics and a D above P
pub record Holder (v : Setting) (win : List ℤ) (m : System) : Type 0 where
  pub common : common_on v ≡ true
  pub has : harmonics v win m ≡ true
  pub above : v.thresholds.basic < differential v win m

-- such a one other than l
pub record Another (v : Setting) (win : List ℤ) (l : System) : Type 0 where
  pub one : System
  pub other : one ≢ l
  pub holder : Holder v win one

-- a system whose D is at most P
abbrev pub Unloaded : Setting → List ℤ → System → Type 0
Unloaded v win m = differential v win m ≤ v.thresholds.basic

-- windows that differ in the numbers of system m at most
abbrev pub AlikeBut : System → (win win' : List ℤ) → Type 0
AlikeBut m win win' = (l : System) → l ≢ m → (k z : ℕ) → at win k z l ≡ at win' k z l

pub record Blocking (v : Setting) (win : List ℤ) : Type 0 where
  -- one that has harmonics and a D above P blocks all three
  pub all : (m : System) → Holder v win m → (l : System) → blocked v win l ≡ true
  -- one with harmonics is blocked itself, whatever its D
  pub own : (l : System) → harmonics v win l ≡ true → blocked v win l ≡ true
  -- one with no harmonics is blocked by nothing but such another
  pub held : (l : System) → harmonics v win l ≡ false → blocked v win l ≡ true → Another v win l
  -- a system whose D is at most P never makes another one blocked: that is blocked or not as with anything else there whose D is at most P
  pub unloaded : (m : System) → Unloaded v win m → (win' : List ℤ) → AlikeBut m win win' → Unloaded v win' m → (l : System) → l ≢ m →
      blocked v win l ≡ blocked v win' l

-- for every setting and window
unfoldable pub CommonBlocking : Type 0
CommonBlocking = (v : Setting) (win : List ℤ) → Blocking v win
