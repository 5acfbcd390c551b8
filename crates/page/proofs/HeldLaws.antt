-- The window of an admissible record can be measured: its numbers are as large as a record may hold.
use mathlib.Core.Path.{◌≡◌}
use mathlib.Core.List.{List}
use native.Mathlib.Omega.{arith}
use lib.Dec.{T}
use lib.IntN.{ℤ}
use lib.ListN.{length}
use Rattle.lists.specs.Tests.{Each}
use Rattle.lists.proofs.TestLaws.{each_get}
use Rattle.setting.specs.declared.Setting.{Setting}
use Rattle.setting.specs.Values.{startable}
use Rattle.setting.proofs.LimitLaws.{startable_is}
use Rattle.measuring.specs.WindowInput.{Measurable}
use Rattle.state.specs.declared.Window.{Window}
use Rattle.state.proofs.Placed.{Sized, zero_sized, numbers_sized}
use Rattle.page.specs.PageInput.{Held}

pub measurable : (v : Setting) → T (startable v) → (win : List ℤ) → length win ≡ 144 → Each Sized win → Measurable v win
measurable v sound win long sized =
    let s = startable_is v sound in
    record {
      ends = record { two = s.limits.two; four = s.limits.four };
      sections = omega (arith, s.basic.most, s.knee.least);
      window = record { long = long; small = each_get sized zero_sized };
    }

pub held_ready : {v : Setting} {w : Window} → Held v w → length w.values ≡ 144 → Measurable v w.values
held_ready {v} {w} h long = measurable v h.sound w.values long (numbers_sized h.small)
