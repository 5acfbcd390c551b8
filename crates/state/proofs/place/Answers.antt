-- `state::place` meets its contract: while there is room the numbers go after those held; else the oldest go, and they go last.
use borrow.Author.Rules.{rules}
use borrow.Author.Tests.{lt-ltb, le-ltb}
use mathlib.Core.Path.{◌≡◌, ◌∙◌}
use mathlib.Core.List.{List}
use lib.IntN.{ℤ}
use lib.ListN.{length}
use Prim.Native.Nat.{ℕ}
use Rattle.state.specs.declared.Window.{Window}
use Rattle.state.specs.State.{window_with}
use Rattle.state.proofs.Moves.{shift_all, put_last}
use Rattle.state.proofs.place.Goals as goal

same_values : (a b : List ℤ) (n : ℕ) → a ≡ b → ◌≡◌ {A = Window} (record { values = a; fill = n }) (record { values = b; fill = n })
same_values a b n e = λ i. record { values = e i; fill = n }

pub returns-then-w-lt12 : goal.returns-then-w-lt12
unfolding window_with
returns-then-w-lt12 c =
    record {
      window = rw (lt-ltb _ _ c.if-w-lt12.true) (same_values _ _ _ (c.put.ensures ∙ rw c.from.ensures));
      long = search rules;
    }

pub returns : goal.returns
unfolding window_with
returns c =
    let w = c.args.w in
    let l : length w.values ≡ 144 = search rules in
    record {
      window =
          rw (le-ltb _ _ c.if-w-lt12.false)
          (same_values _ _ _ (c.put-2.ensures ∙ put_last w.values _ c.args.ns l (c.copy_within.ensures.after ∙ shift_all w.values l)));
      long = search rules;
    }
