-- The window after a set, of any admissible record: each number within 800,000, and at most twelve sets held.
use mathlib.Core.Path.{◌≡◌, refl}
use mathlib.Core.Bool.{Bool, true, false, cond}
use mathlib.Core.List.{List}
use Prim.Native.Nat.{◌+◌, ◌*◌, ◌≤◌}
use native.Mathlib.Omega.{arith}
use lib.Dec.{T, ltb, leb→le, le→leb}
use borrow.Author.Tests.{ltb-true}
use lib.IntN.{ℤ, pos, nat_abs}
use Rattle.integer.specs.Within.{◌within◌}
use Rattle.lists.specs.Tests.{each, Each}
use Rattle.integer.proofs.Reading.{ints}
use Rattle.lists.proofs.TestLaws.{test_each, each_test, each_append, each_drop, each_take}
use Rattle.state.specs.declared.Window.{Window}
use Rattle.state.specs.State.{number_within, after_held, at_end, window_with}

-- a matched number that a record may hold
abbrev pub Sized : ℤ → Type 0
Sized x = x within 800000

pub zero_sized : Sized (pos 0)
zero_sized = simp ints (omega arith)

-- the test of refusal 12 on the matched numbers as a fact
pub numbers_sized : {l : List ℤ} → T (each number_within l) → Each Sized l
numbers_sized {l} t = test_each number_within (λ x s. record { size = leb→le (nat_abs x) 800000 s }) l t

pub sized_test : {l : List ℤ} → Each Sized l → T (each number_within l)
sized_test = each_test number_within (λ x h. le→leb (nat_abs x) 800000 h.size)

-- each number of the window after a set
pub window_with_sized : (w : Window) (ns : List ℤ) → Each Sized w.values → Each Sized ns → Each Sized (window_with w ns).values
unfolding window_with
window_with_sized w ns old new = by (ltb w.fill 12)
  where
    by : (b : Bool) → Each Sized (cond b (after_held w ns) (at_end w ns)).values
    by true = each_append (each_take old (12 * w.fill)) (each_append new (each_drop old (12 * w.fill + 12)))
    by false = each_append (each_drop old 12) new

-- at most twelve are held
pub window_with_fill : (w : Window) (ns : List ℤ) → (window_with w ns).fill ≤ 12
unfolding window_with
window_with_fill w ns = by (ltb w.fill 12) refl
  where
    by : (b : Bool) → ltb w.fill 12 ≡ b →
        (cond b (after_held w ns) (at_end w ns)).fill ≤ 12
    by true e = omega (arith, ltb-true w.fill 12 e)
    by false e = omega arith
