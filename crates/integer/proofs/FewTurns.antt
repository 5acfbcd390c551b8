-- The turns of a root are no more than the digits of its number: the start is near, and each turn takes a digit (Newton.antt).
use mathlib.Core.Path.{◌≡◌, refl}
use Prim.Native.Nat.{ℕ, zero, suc, ◌+◌, ◌*◌, ◌^◌, ◌≤◌, ◌<◌}
use native.Mathlib.Omega.{arith}
use lib.Dec.{nleb→lt}
use lib.Count.{count_leading_zeros, leading_top}
use Rattle.integer.specs.Root.{root, digits, start, reached, turns_from, turns, FewTurns}
use Rattle.integer.proofs.RootLaws.{root_is}
use Rattle.integer.proofs.Newton.{few_from, start_near}

pub few_turns : FewTurns
few_turns = record { few = few; none = refl }
  where
    few : (n : ℕ) → n < 2 ^ 64 → turns n ≤ digits n
    few zero h = omega arith
    few (suc n) h =
        let x = suc n in
        let t = leading_top 64 x (omega arith) h in
        let e : digits x ≡ suc t.0 = omega (arith, t.1) in
        let is = root_is x in
        let near : start x < root x + 2 ^ digits x = rw e (omega (arith, (start_near x (omega arith) h).2, t.3, some (root x) is.high)) in
        few_from (digits x) (start x) x (start x) (root x) (reached x (start x)) (nleb→lt _ _) is near
      where
        some : (m : ℕ) → suc n < (m + 1) * (m + 1) → 0 < m
        some zero h = absurd (omega arith)
        some (suc m) h = omega arith

-- 0, 1 and 3, a million, one that takes three turns, and the largest number of 64 digits
worked : (turns 0 ≡ 0) × (turns 1 ≡ 1) × (turns 3 ≡ 2) × (turns 1000000 ≡ 1) × (turns 156738930447526599 ≡ 3) × (turns 18446744073709551615 ≡ 0)
unfolding turns_from start count_leading_zeros
worked = (refl, refl, refl, refl, refl, refl)
