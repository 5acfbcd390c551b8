-- `block::zeros` meets its contract: all of a list are zero if and only if their sum is.
use borrow.Author.Rules.{rules}
use mathlib.Core.Path.{◌≡◌, refl, ap, ◌∙◌}
use mathlib.Core.Bool.{Bool, ◌&&◌}
use mathlib.Core.List.{List, [], ◌∷◌}
use Prim.Native.Nat.{ℕ}
use lib.Dec.{eqb}
use Rattle.std.specs.List.{sum_by, list_all}
use Rattle.std.proofs.lemmas.List.Folds.{sum_by-zero}
use Rattle.block.specs.Bytes.{zeros}
use Rattle.block.proofs.zeros.Goals as goal

all_zero : (s : List ℕ) → list_all (λ x. eqb x 0) s ≡ zeros s
unfolding zeros
all_zero [] = refl
all_zero (x ∷ s) = ap (λ (b : Bool). eqb x 0 && b) (all_zero s)

pub returns : goal.returns
returns c =
    let s = c.args.s.now in
    let sum : c.sum-sum.result ≡ sum_by (λ x. x) s = search rules in
    rw sum (sum_by-zero (λ x. x) s ∙ all_zero s)
