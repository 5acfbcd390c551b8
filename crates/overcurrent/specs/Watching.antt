-- The inverse-time elements at a set with the window full (§ Backup overcurrent).
use Rattle.std.specs.Prelude.{◌≡◌, false, List, ℕ, max, T, eqb, ℤ}
use Rattle.lists.specs.Tests.{hold}
use Rattle.setting.specs.declared.Setting.{Setting}
use Rattle.setting.specs.Limits.{TimersOn}
use Rattle.matching.specs.Sets.{sys_a, sys_b, sys_c}
use Rattle.amplitude.specs.Amplitude.{amplitude}
use Rattle.measuring.specs.Window.{series}
use Rattle.measuring.specs.Measuring.{readings_of}
use Rattle.measuring.specs.WindowInput.{Measurable}
use Rattle.inverse_time.specs.declared.Timer.{Timer}
use Rattle.systems.specs.declared.Ends.{Ends}
use Rattle.overcurrent.specs.declared.Watched.{Watched}
use Rattle.overcurrent.specs.Ends.{backup_after, sums_within}

-- A is the largest h = 1 amplitude of the end's three systems, in thousandths of reference current (§ Backup overcurrent 2)
unfoldable pub largest : List ℤ → (z : ℕ) → ℕ
largest win z = max (amplitude 1 (series win z sys_a)) (max (amplitude 1 (series win z sys_b)) (amplitude 1 (series win z sys_c)))

unfoldable pub backup_by : Setting → List ℤ → Ends Timer → Ends Timer
backup_by v win b = backup_after v.ends v.overcurrent.curve v.overcurrent.pickup (largest win) b

-- what is measured, and sums and trips after it
pub record Watches (v : Setting) (win : List ℤ) (b : Ends Timer) (r : Watched) : Type 0 where
  pub readings : r.readings ≡ readings_of v win
  pub backup : r.backup ≡ backup_by v win b

pub record WatchInput (v : Setting) (win : List ℤ) (b : Ends Timer) : Type 0 where
  pub measurable : Measurable v win
  pub on : eqb v.overcurrent.curve 0 ≡ false → TimersOn v.overcurrent
  pub sums : T (hold (sums_within b))
