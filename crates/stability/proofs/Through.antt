-- The sets of specs/ThroughFault.antt are those of healthy banks: the currents in their limbs, and each condition computed. Those with neutral current were
-- not before card 8, since the samples of their end 0 sum to more than one unit.
use mathlib.Core.Path.{◌≡◌, refl}
use mathlib.Core.Bool.{false}
use mathlib.Core.List.{List}
use Prim.Native.Nat.{ℕ, zero, suc, ◌<◌}
use native.Mathlib.Omega.{arith}
use lib.Dec.{T, ltb, ltb→lt}
use lib.IntN.{ℤ, pos, neg_ℤ, nat_abs}
use Rattle.integer.specs.Nearest.{nearest, floor}
use Rattle.integer.specs.Within.{neg, eq_z}
use Rattle.integer.specs.Sum.{sum}
use Rattle.lists.specs.Lists.{up_to}
use Rattle.lists.specs.Tests.{hold}
use Rattle.setting.specs.declared.Setting.{Setting}
use Rattle.setting.specs.Values.{end_of, factor, factor_high, factors_low, start_rows, startable}
use Rattle.setting.specs.Worked.{yd5}
use Rattle.setting.proofs.LimitLaws.{startable_is}
use Rattle.matching.specs.declared.Three.{Three}
use Rattle.matching.specs.Matching.{three, operation, sum3}
use Rattle.matching.specs.Sets.{seen, phases, filtered}
use Rattle.matching.specs.Bank.{line_current, gained, ideal}
use Rattle.matching.specs.Neutral.{NeutralBefore}
use Rattle.matching.proofs.NeutralLaws.{neutral_before}
use Rattle.matching.proofs.Tested.{facts, tested}
use Rattle.relay.specs.Calls.{set_rows, accepted}
use Rattle.stability.specs.ThroughFault.{through, ThroughFault, autotransformer, earthed, odd_bank, earthed_odd, NewlyHealthy, EarthFaults}

-- the currents of a bank of two ends: what flows in at end 0, in thousandths on the limbs A, B, C, leaves at end 1
abbrev flow : (a b c : ℤ) → ℕ → Three
flow a b c zero = three a b c
flow a b c (suc z) = three (neg_ℤ a) (neg_ℤ b) (neg_ℤ c)

-- and on each phase of end 0
abbrev zero_sequence : ℕ → ℤ
zero_sequence zero = pos 5000000
zero_sequence (suc z) = pos 0

pub through_fault : ThroughFault
unfolding ThroughFault yd5 through factor factor_high factors_low start_rows nearest floor up_to set_rows eq_z facts sum seen line_current gained ideal operation
through_fault = (tt, tt, tested yd5 (flow (pos 20000000) (neg 10000000) (neg 10000000)) zero_sequence through tt)

-- ---- neutral current

-- what flows in at the three ends of the autotransformer
abbrev spread : ℕ → Three
spread zero = three (pos 8000000) (neg 1000000) (neg 1000000)
spread (suc zero) = three (neg 15000000) (pos 500000) (pos 500000)
spread (suc (suc z)) = three (pos 7000000) (pos 500000) (pos 500000)

-- nothing of its own on the phases of an end
abbrev nothing : ℕ → ℤ
nothing z = pos 0

newly : (v : Setting) (w : ℕ → Three) (xs : List ℤ) → T (startable v) → T (accepted v xs) → T (hold (facts v w nothing xs)) →
    filtered (end_of v 0) ≡ false → T (ltb 1 (nat_abs (sum3 (phases xs 0)))) → NewlyHealthy v xs
unfolding NeutralBefore
newly v w xs s a h f m =
    let used : 0 < v.ends = omega (arith, (startable_is v s).limits.two) in
    record {
      starts = s;
      taken = a;
      now = tested v w nothing xs h;
      before = λ b. let few = (neutral_before v s xs b 0 used f).size in omega (arith, ltb→lt 1 (nat_abs (sum3 (phases xs 0))) m);
    }

pub earth_faults : EarthFaults
unfolding EarthFaults autotransformer earthed odd_bank earthed_odd factor factor_high factors_low start_rows nearest floor up_to set_rows eq_z facts sum seen line_current
    gained ideal operation
earth_faults = (
  newly autotransformer spread earthed tt tt tt refl tt,
  newly odd_bank (flow (pos 20000000) (neg 4000000) (neg 1000000)) earthed_odd tt tt tt refl tt,
)
