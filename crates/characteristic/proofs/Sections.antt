-- R alone tells which section applies: the first up to P, the second up to 2Q, the third beyond.
use mathlib.Core.Path.{◌≡◌}
use mathlib.Core.Bool.{or-false}
use Prim.Native.Nat.{ℕ, ◌+◌, ◌*◌, ◌-◌, ◌≤◌, ◌<◌}
use lib.Dec.{ltb}
use borrow.Author.Tests.{le-leb, lt-leb, le-ltb, lt-ltb}
use Rattle.setting.specs.declared.Setting.{Setting}
use Rattle.setting.specs.declared.Thresholds.{Thresholds}
use Rattle.characteristic.specs.Characteristic.{starts}
use Rattle.characteristic.specs.Slopes.{second_line}

-- the third section's line past 2Q
abbrev pub third_line : Thresholds → ℕ → ℕ
third_line t R = 200 * t.basic + t.slope1 * (2 * t.knee - t.basic) + t.slope2 * (R - 2 * t.knee)

module _ (v : Setting) (D R : ℕ) where
  abbrev t : Thresholds
  t = v.thresholds

  pub in_first : R ≤ t.basic → R ≤ 2 * t.knee → starts v D R ≡ ltb t.basic D
  unfolding starts
  in_first low under = rw (le-leb R t.basic low, le-ltb t.basic R low, le-ltb (2 * t.knee) R under) (or-false _)

  pub in_second : t.basic < R → R ≤ 2 * t.knee → starts v D R ≡ ltb (second_line t R) (200 * D)
  unfolding starts
  in_second past under =
      rw (lt-leb R t.basic past, lt-ltb t.basic R past, le-leb R (2 * t.knee) under, le-ltb (2 * t.knee) R under) (or-false _)

  pub in_third : t.basic < R → 2 * t.knee < R → starts v D R ≡ ltb (third_line t R) (200 * D)
  unfolding starts
  in_third past over =
      rw (lt-leb R t.basic past, lt-ltb t.basic R past, lt-leb R (2 * t.knee) over, lt-ltb (2 * t.knee) R over)
