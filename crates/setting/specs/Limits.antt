-- What the arithmetic of a startable setting rests on.
use Rattle.std.specs.Prelude.{cond, ℕ, ◌≤◌, ◌<◌, List, ltb, ℤ, pos}
use Rattle.lists.specs.Lists.{up_to}
use Rattle.setting.specs.declared.End.{End}
use Rattle.setting.specs.declared.Overcurrent.{Overcurrent}
use Rattle.setting.specs.declared.Setting.{Setting}
use Rattle.setting.specs.Values.{end_of, factor}

-- an end and a reference power in their ranges, so that K is worked out without overflow
pub record Rated (e : End) (power : ℕ) : Type 0 where
  pub voltage : e.voltage ≤ 15000
  pub current : e.current ≤ 50000
  pub some : 1 ≤ power
  pub most : power ≤ 50000

-- two to four ends, each end in use rated, of a group below 12
pub record Limits (v : Setting) : Type 0 where
  pub two : 2 ≤ v.ends
  pub four : v.ends ≤ 4
  pub rated : (z : ℕ) → z < v.ends → Rated (end_of v z) v.power
  pub group : (z : ℕ) → z < v.ends → (end_of v z).group < 12

-- inverse-time elements that are on: a curve of the two, and a pick-up of 200 or more (§ The setting block)
pub record TimersOn (o : Overcurrent) : Type 0 where
  pub some : 1 ≤ o.curve
  pub two : o.curve ≤ 2
  pub pickup : 200 ≤ o.pickup

-- K of each of the four ends, 0 at an end that is not in use
abbrev pub factor_or0 : Setting → ℕ → ℤ
factor_or0 v z = cond (ltb z v.ends) (factor v z) (pos 0)

unfoldable pub four_factors : Setting → List ℤ
four_factors v = up_to 4 (factor_or0 v)
