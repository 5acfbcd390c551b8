-- What the code of the measuring takes.
use Rattle.std.specs.Prelude.{◌≡◌, List, ℕ, ◌*◌, ◌≤◌, ◌<◌, ℤ, pos, length, get_or}
use Rattle.integer.specs.Within.{◌within◌}
use Rattle.setting.specs.declared.Setting.{Setting}

-- twelve places of twelve numbers, each as large as a record may hold
pub record WindowInput (win : List ℤ) : Type 0 where
  pub long : length win ≡ 144
  pub small : (k : ℕ) → get_or win k (pos 0) within 800000

-- two to four ends
pub record Ends (ends : ℕ) : Type 0 where
  pub two : 2 ≤ ends
  pub four : ends ≤ 4

-- a window and a setting whose third section starts past its basic threshold
pub record Measurable (v : Setting) (win : List ℤ) : Type 0 where
  pub ends : Ends v.ends
  pub sections : v.thresholds.basic ≤ 2 * v.thresholds.knee
  pub window : WindowInput win

-- and one of the systems
pub record SystemInput (v : Setting) (win : List ℤ) (y : ℕ) : Type 0 where
  pub measurable : Measurable v win
  pub system : y < 3
