-- The h = 1 amplitudes of the ends by the parts of a window: R, twice the restraint, is made of them with three or four ends (§ Amplitudes 7), and the
-- overcurrent elements look at them (§ Backup overcurrent 2).
use Rattle.std.specs.Prelude.{◌≡◌, Bool, not, ◌&&◌, cond, List, ℕ, ◌+◌, ◌*◌, ◌≤◌, ◌<◌, T, eqb, ℤ, pos, length, get_or}
use Rattle.setting.specs.declared.Setting.{Setting}
use Rattle.matching.specs.Sets.{System, index}
use Rattle.amplitude.specs.Amplitude.{amplitude}
use Rattle.measuring.specs.declared.WithEnds.{WithEnds}
use Rattle.measuring.specs.Window.{series}
use Rattle.measuring.specs.Measuring.{readings_of}
use Rattle.measuring.specs.Folded.{part_at, first_by}

-- What is measured, and where they are asked for the amplitudes of the ends in use: number 3·z + y is of end z and system y.
pub record MeasuresEnds (v : Setting) (win : List ℤ) (asked : Bool) (r : WithEnds) : Type 0 where
  pub readings : r.readings ≡ readings_of v win
  pub amplitudes : T asked → (z : ℕ) → z < v.ends → (l : System) → get_or r.amplitudes (3 * z + index l) 0 ≡ amplitude 1 (series win z l)
  pub small : (i : ℕ) → get_or r.amplitudes i 0 ≤ 32000000

-- ---- as the code works them out

-- part p of number i of the sets
abbrev pub part_of : List ℤ → (p i : ℕ) → ℤ
part_of f p i = get_or f (12 * p + i) (pos 0)

-- The numbers from `first` on in steps of `step`: those below `to` have their amplitudes in their places; from n on all is 0.
pub record AmplitudesFrom (f : List ℤ) (first step to n : ℕ) (a : List ℕ) : Type 0 where
  pub long : length a ≡ 12
  pub is : (i k : ℕ) → i ≡ first + k * step → i < to → get_or a i 0 ≡ first_by (λ p. part_of f p i)
  pub none : (i : ℕ) → n ≤ i → get_or a i 0 ≡ 0
  pub small : (i : ℕ) → get_or a i 0 ≤ 32000000

pub record StepsInput (first step n : ℕ) : Type 0 where
  pub start : first ≤ 3
  pub some : 1 ≤ step
  pub few : step ≤ 3
  pub within : n ≤ 12

-- how many numbers have their amplitudes taken
unfoldable pub taken : (ends : ℕ) (asked : Bool) → ℕ
taken E asked = cond (eqb E 2 && not asked) 0 (3 * E)

-- those of system y, at the places of its ends
pub record EndsOf (E : ℕ) (f : List ℤ) (y : ℕ) (a : List ℕ) : Type 0 where
  pub is : (i z : ℕ) → i ≡ 3 * z + y → z < E → get_or a i 0 ≡ first_by (λ p. part_at f p z y)
  pub none : (i z : ℕ) → i ≡ 3 * z + y → E ≤ z → get_or a i 0 ≡ 0
  pub small : (i : ℕ) → get_or a i 0 ≤ 32000000

-- With three or four ends R is made of them.
abbrev pub MadeOf : (ends : ℕ) (f : List ℤ) (y : ℕ) (a : List ℕ) → Type 0
MadeOf E f y a = 3 ≤ E → EndsOf E f y a
