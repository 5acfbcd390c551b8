-- `matching::weights_at` meets its contract: K, the group and the filter are those of the end, and K times what the operation makes of 1 fits.
use mathlib.Core.Path.{◌≡◌, refl, ap, ◌∙◌}
use mathlib.Core.Bool.{Bool}
use mathlib.Core.List.{List, [], ◌∷◌}
use Prim.Native.Nat.{ℕ, ◌*◌, ◌<◌}
use lib.Dec.{T, leb, leb→le}
use lib.IntN.{ℤ, pos, nat_abs, ◌*ℤ◌}
use lib.ListN.{get_or}
use Rattle.lists.specs.Tests.{hold}
use Rattle.lists.proofs.Fill.{place}
use Rattle.lists.proofs.TestLaws.{hold_at}
use Rattle.setting.specs.declared.End.{End}
use Rattle.setting.specs.declared.Setting.{Setting}
use Rattle.setting.specs.Values.{end_of}
use Rattle.setting.specs.Limits.{factor_or0, four_factors}
use Rattle.matching.specs.declared.Three.{Three}
use Rattle.matching.specs.Matching.{even, operated}
use Rattle.matching.specs.Sets.{filtered}
use Rattle.matching.specs.Weights.{parts, weight_of, weights_at}
use Rattle.matching.specs.MatchingInput.{OperatedInput, FactorsInput}
use Rattle.matching.proofs.Bits.{kept, Number, fits, read, product}
use Rattle.matching.proofs.Parts.{parts_within}
use Rattle.matching.proofs.Weighing.{factor_within, group_below}
use Rattle.matching.proofs.weights_at.Goals as goal

-- ---- three literals that are samples, by a test that computes

abbrev sizes : Three → List Bool
sizes x = leb (nat_abs x.p) 32000 ∷ leb (nat_abs x.n) 32000 ∷ leb (nat_abs x.q) 32000 ∷ []

samples : {g : ℕ} → g < 12 → (x : Three) → T (hold (sizes x)) → OperatedInput g x
samples l x t =
    let at = hold_at (sizes x) t in
    record {
      group = l;
      own = record { size = leb→le _ _ (at 0) };
      next = record { size = leb→le _ _ (at 1) };
      before = record { size = leb→le _ _ (at 2) };
    }

-- ---- an end e, which is that of the definition

module _ {v : Setting} {ks : List ℤ} (a : FactorsInput v ks) {z : ℕ} (l : z < 4) {e : End} (is : e ≡ end_of v z) where
  group : e.group < 12
  group = rw is (group_below v a.sound z l)

  -- K times what `operated` made of x
  weight : {j : ℕ} → j ≡ z → (x : Three) {r : ℤ} → r ≡ parts (operated (even e.group) (filtered e) e.group x) → T (hold (sizes x)) →
      Number (kept (get_or ks j (pos 0)) *ℤ kept r) (weight_of v z x) (1048576 * (6031 * 32000))
  unfolding four_factors
  weight at x h t =
      let k = ap (λ (i : ℕ). get_or ks i (pos 0)) at ∙ place (pos 0) (factor_or0 v) a.factors z l in
      product (record { is = k; size = factor_within v a.sound z; few = refl })
      (record { is = h ∙ rw is; size = parts_within (samples (group_below v a.sound z l) x t) (filtered (end_of v z)); few = refl })
      refl

-- ---- the needs

pub operated-requires : goal.operated-requires
operated-requires c = let p = c.requires in samples (group p.0 p.1 c.end_of-e.ensures) _ tt

pub overflow_mul-result : goal.overflow_mul-result
overflow_mul-result c = let p = c.requires in fits (weight p.0 p.1 c.end_of-e.ensures c.from.ensures _ c.operated.ensures tt)

pub operated-requires-2 : goal.operated-requires-2
operated-requires-2 c = let p = c.requires in samples (group p.0 p.1 c.end_of-e.ensures) _ tt

pub overflow_mul-result-2 : goal.overflow_mul-result-2
overflow_mul-result-2 c = let p = c.requires in fits (weight p.0 p.1 c.end_of-e.ensures c.from.ensures _ c.operated-2.ensures tt)

pub operated-requires-3 : goal.operated-requires-3
operated-requires-3 c = let p = c.requires in samples (group p.0 p.1 c.end_of-e.ensures) _ tt

pub overflow_mul-result-3 : goal.overflow_mul-result-3
overflow_mul-result-3 c = let p = c.requires in fits (weight p.0 p.1 c.end_of-e.ensures c.from.ensures _ c.operated-3.ensures tt)

pub returns : goal.returns
unfolding weights_at
returns c =
    let p = c.requires in
    rw (
      read (weight p.0 p.1 c.end_of-e.ensures c.from.ensures _ c.operated.ensures tt),
      read (weight p.0 p.1 c.end_of-e.ensures c.from.ensures _ c.operated-2.ensures tt),
      read (weight p.0 p.1 c.end_of-e.ensures c.from.ensures _ c.operated-3.ensures tt),
    )
