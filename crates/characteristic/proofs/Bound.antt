-- A D that is at most the basic threshold starts nothing: the slopes only add to the threshold. A D that is at most the high-set too does not count.
use mathlib.Core.Path.{◌≡◌}
use mathlib.Core.Bool.{Bool, false, and-false}
use Prim.Native.Nat.{ℕ, ◌+◌, ◌*◌, ◌≤◌}
use native.Mathlib.Omega.{arith}
use lib.Dec.{ltb}
use borrow.Author.Tests.{le-ltb}
use Rattle.setting.specs.declared.Setting.{Setting}
use Rattle.characteristic.specs.Characteristic.{starts, counts}
use Rattle.characteristic.specs.Bound.{QuietBound}

-- 200·P and anything more is not below 200·D
module _ (P D : ℕ) (h : D ≤ P) where
  not_past : (x : ℕ) → ltb (200 * P + x) (200 * D) ≡ false
  not_past x = le-ltb (200 * P + x) (200 * D) (omega arith)

  not_past_2 : (x y : ℕ) → ltb (200 * P + x + y) (200 * D) ≡ false
  not_past_2 x y = le-ltb (200 * P + x + y) (200 * D) (omega arith)

pub starts_no : (v : Setting) (D R : ℕ) → D ≤ v.thresholds.basic → starts v D R ≡ false
unfolding starts
starts_no v D R h = simp (le-ltb v.thresholds.basic D h, not_past v.thresholds.basic D h, not_past_2 v.thresholds.basic D h, and-false)

pub counts_no : (v : Setting) (D : ℕ) (start blocked : Bool) → start ≡ false → D ≤ v.thresholds.high → counts v D start blocked ≡ false
counts_no v D start blocked e h = rw (e, le-ltb v.thresholds.high D h)

pub quiet_bound : QuietBound
unfolding QuietBound
quiet_bound v p h D l R blocked =
    let no = starts_no v D R (omega arith) in
    (no, counts_no v D (starts v D R) blocked no (omega arith))
