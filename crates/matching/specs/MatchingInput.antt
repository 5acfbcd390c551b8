-- What the code of the matching takes.
use Rattle.std.specs.Prelude.{◌≡◌, List, ℕ, ◌*◌, ◌^◌, ◌<◌, T, ℤ, length}
use Rattle.integer.specs.Within.{◌within◌}
use Rattle.setting.specs.declared.Setting.{Setting}
use Rattle.setting.specs.Values.{startable}
use Rattle.setting.specs.Limits.{four_factors}
use Rattle.matching.specs.declared.Three.{Three}
use Rattle.matching.specs.Sets.{phases}
use Rattle.matching.specs.Bank.{InReach}
use Rattle.matching.specs.Weights.{weights_of}

-- three numbers that the group operation takes
pub record OperationInput (p n q : ℤ) : Type 0 where
  pub own : p within 2 ^ 20
  pub next : n within 2 ^ 20
  pub before : q within 2 ^ 20

-- a group and three samples
pub record OperatedInput (g : ℕ) (x : Three) : Type 0 where
  pub group : g < 12
  pub own : x.p within 32000
  pub next : x.n within 32000
  pub before : x.q within 32000

-- a factor beside them
pub record MatchedInput (K : ℤ) (g : ℕ) (x : Three) : Type 0 where
  pub factor : K within 1048576
  pub sampled : OperatedInput g x

-- a setting that a relay can be started on, and its factors
pub record FactorsInput (v : Setting) (ks : List ℤ) : Type 0 where
  pub sound : T (startable v)
  pub factors : ks ≡ four_factors v

-- |x| of three numbers is at most b
pub record Most (b : ℕ) (x : Three) : Type 0 where
  pub own : x.p within b
  pub next : x.n within b
  pub before : x.q within b

-- three weights, each at most what the largest K makes of a phase of 1, and three samples
pub record WeighedInput (w x : Three) : Type 0 where
  pub weights : Most (1048576 * 6031) w
  pub samples : Most 32000 x

-- an end, and, where it is in use, its weights and samples among twelve
pub record EndInput (ends : ℕ) (ws : List ℤ) (z : ℕ) (xs : List ℤ) : Type 0 where
  pub below : z < 4
  pub twelve : length xs ≡ 12
  pub used : z < ends → WeighedInput (phases ws z) (phases xs z)

-- a setting that a relay can be started on, its weights, and a set of 12 samples within ±32,000
pub record SetInput (v : Setting) (ws xs : List ℤ) : Type 0 where
  pub sound : T (startable v)
  pub weights : ws ≡ weights_of v
  pub twelve : length xs ≡ 12
  pub reach : InReach v xs
