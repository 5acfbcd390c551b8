-- `measuring::combined` meets its contract. The loop's invariant: `sum` holds the bits of the sum of the first k products.
use mathlib.Core.Path.{◌≡◌, refl}
use mathlib.Core.List.{List}
use Prim.Native.Nat.{ℕ, ◌+◌, ◌*◌, ◌≤◌, ◌<◌}
use native.Mathlib.Omega.{arith}
use lib.IntN.{ℤ, pos, ◌+ℤ◌, ◌*ℤ◌}
use lib.ListN.{get_or}
use mir.Syntax.{w32}
use mir.Val.{SFits, to_z, of_z}
use Rattle.integer.specs.Within.{◌within◌}
use Rattle.integer.specs.Sum as S
use Rattle.integer.proofs.Laws.{within-≤, within-*}
use Rattle.integer.proofs.Machine.{fits, back, back_within}
use Rattle.integer.proofs.SumLaws.{sum_next, sum_within_lem}
use Rattle.measuring.specs.Folded.{column, combined, CombinedInput}
use Rattle.measuring.proofs.combined.Goals as goal

module _ {win w : List ℤ} {i : ℕ} (z : CombinedInput win w i) where
  abbrev term : ℕ → ℤ
  term k = get_or w k (pos 0) *ℤ column win i k

  abbrev partial : ℕ → ℤ
  partial n = S.sum n term

  term_within : (k : ℕ) → term k within (2 * 800000)
  term_within k = within-* (z.shares k) (z.window.small _)

  partial_within : (n : ℕ) → n ≤ 12 → partial n within 19200000
  partial_within n l = within-≤ (sum_within_lem (2 * 800000) n term (λ k h. term_within k)) (omega arith)

  -- the product as the machine works it out, and the sum so far with it
  module _ (k : ℕ) where
    abbrev product : ℤ
    product = to_z w32 (of_z w32 (get_or w k (pos 0))) *ℤ to_z w32 (of_z w32 (column win i k))

    product_is : product ≡ term k
    product_is = simp (back_within (z.shares k), back_within (z.window.small (12 * k + i)))

    product_fits : SFits w32 product
    product_fits = rw product_is (fits (term_within k) w32 refl)

    module _ (l : k < 12) where
      total_is : partial k +ℤ to_z w32 (of_z w32 product) ≡ partial (k + 1)
      total_is = rw (back product_fits, product_is, sum_next)

      total_fits : SFits w32 (partial k +ℤ to_z w32 (of_z w32 product))
      total_fits = rw total_is (fits (partial_within (k + 1) (omega arith)) w32 refl)

pub loop-k-init : goal.loop-k-init
unfolding S.sum
loop-k-init c = refl

pub overflow_add-sum-in-loop-k : goal.overflow_add-sum-in-loop-k
overflow_add-sum-in-loop-k c = rw c.loop-k.invariant (total_fits c.requires c.loop-k.k (omega arith))

pub loop-k-preserved : goal.loop-k-preserved
loop-k-preserved c =
    let z = c.requires in
    let l : c.loop-k.k < 12 = omega arith in
    rw (c.loop-k.invariant, back (total_fits z c.loop-k.k l), total_is z c.loop-k.k l)

pub returns : goal.returns
unfolding combined
returns c = let all : c.loop-k.k ≡ 12 = omega arith in rw (c.loop-k.invariant, all)
