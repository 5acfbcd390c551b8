-- Sets with current at one end alone. Matching gives zero for an end whose samples are zero, and such a set is laid out in the window with zeros at the
-- places of that end.
use mathlib.Core.Path.{◌≡◌, refl, ◌∙◌}
use mathlib.Core.List.{List, map}
use Prim.Native.Nat.{◌+◌, ◌*◌}
use native.Mathlib.Omega.{arith}
use lib.IntN.{ℤ, pos}
use lib.ListN.{length-map}
use Rattle.lists.specs.Tests.{Each, none, ◌&◌}
use Rattle.lists.proofs.Places.{length_up_to, flat_at}
use Rattle.lists.proofs.TestLaws.{each_get}
use Rattle.setting.specs.declared.Setting.{Setting}
use Rattle.setting.proofs.LimitLaws.{startable_is}
use Rattle.matching.specs.Sets.{index, numbers, number_at}
use Rattle.matching.proofs.Negated.{matched_at_zero}
use Rattle.stability.specs.Lists.{window_of}
use Rattle.stability.proofs.Filing.{Twelve}
use Rattle.stability.proofs.Demand3.{index_small, number_at_lem}
use Rattle.sensitivity.specs.OneEnd.{OneEndSamples}

each_mapped : {A B : Type 0} {P : A → Type 0} {Q : B → Type 0} (f : A → B) → ((a : A) → P a → Q (f a)) → {l : List A} → Each P l → Each Q (map f l)
each_mapped f h none = none
each_mapped f h (◌&◌ {a = a} p ps) = h a p & each_mapped f h ps

twelve_numbers : (v : Setting) (xs : List ℤ) → Twelve (numbers v xs)
unfolding numbers
twelve_numbers v xs = length_up_to 12 _

pub one_end_samples : OneEndSamples
unfolding OneEndSamples window_of
one_end_samples v s sets z twelve used sole l =
    let four = (startable_is v s).limits.four in
    let twelves : Each Twelve (map (numbers v) sets) = each_mapped (numbers v) (λ xs h. twelve_numbers v xs) sole in
    record {
      in_use = used;
      others_zero = λ k e h u d.
          let zeros : Each (λ ns. number_at ns e l ≡ pos 0) (map (numbers v) sets) =
          each_mapped (numbers v) (λ xs at. number_at_lem v s xs e l u ∙ matched_at_zero v s xs e u l (at e u d)) sole in
          flat_at twelves _ k (3 * e + index l) (pos 0) (omega (arith, length-map sets (numbers v))) (omega (arith, index_small l)) ∙ each_get zeros refl k;
    }
