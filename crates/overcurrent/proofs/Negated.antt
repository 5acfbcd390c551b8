-- A window negated (card 1): A of an end is the same.
use mathlib.Core.Path.{◌≡◌}
use mathlib.Core.List.{List, map}
use Prim.Native.Nat.{ℕ}
use lib.IntN.{ℤ, neg_ℤ}
use Rattle.matching.specs.Sets.{sys_a, sys_b, sys_c}
use Rattle.measuring.proofs.Negated.{end_same}
use Rattle.overcurrent.specs.Watching.{largest}

pub largest_same : (win : List ℤ) (z : ℕ) → largest (map neg_ℤ win) z ≡ largest win z
unfolding largest
largest_same win z = rw (end_same win z sys_a, end_same win z sys_b, end_same win z sys_c)
