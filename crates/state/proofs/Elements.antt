-- The counter and the latch of each system: the test of refusal 12 on the counters, and what a set makes of the two.
use mathlib.Core.Path.{◌≡◌, refl}
use mathlib.Core.Bool.{Bool, true, false, ◌||◌, cond}
use Prim.Native.Nat.{ℕ, ◌+◌, ◌≤◌}
use native.Mathlib.Omega.{arith}
use lib.Dec.{T, ltb, le→leb}
use borrow.Author.Tests.{ltb-true}
use Rattle.lists.specs.Tests.{hold, none, ◌&◌}
use Rattle.lists.proofs.TestLaws.{hold_of}
use Rattle.matching.specs.Sets.{System, sys_a, sys_b, sys_c}
use Rattle.state.specs.declared.Element.{Element}
use Rattle.state.specs.State.{element_of, per_system, counter_after, element_after, counters_within}

-- the element of each system, and what holds of it
pub element_of_lem : (f : System → Element) (l : System) → element_of (per_system f) l ≡ f l
element_of_lem f sys_a = refl
element_of_lem f sys_b = refl
element_of_lem f sys_c = refl

pub per_system_lem : (P : Element → Type 0) (f : System → Element) → ((l : System) → P (f l)) → (l : System) → P (element_of (per_system f) l)
per_system_lem P f h l = rw (element_of_lem f l) (h l)

-- the test of refusal 12 on the counters
pub counters_test : (M : ℕ) (f : System → Element) → ((l : System) → (f l).count ≤ M) → T (hold (counters_within M (per_system f)))
counters_test M f h = hold_of {bs = counters_within M (per_system f)} (le→leb _ _ (h sys_a) & le→leb _ _ (h sys_b) & le→leb _ _ (h sys_c) & none)

-- after a set no counter exceeds M
counter-≤ : (M : ℕ) (b : Bool) (c : ℕ) → counter_after M b c ≤ M
counter-≤ M false c = omega arith
counter-≤ M true c = by (ltb c M) refl
  where
    by : (b : Bool) → ltb c M ≡ b → cond b (c + 1) M ≤ M
    by true e = omega (arith, ltb-true c M e)
    by false e = omega arith

pub element-≤ : (M : ℕ) (b : Bool) (e : Element) → (element_after M b e).count ≤ M
unfolding element_after
element-≤ M b e = counter-≤ M b e.count

-- a set that does not count sets no latch
pub no_latch_after : (M : ℕ) (e : Element) {b : Bool} → b ≡ false → e.latch ≡ false → (element_after M b e).latch ≡ false
unfolding element_after
no_latch_after M e p q = simp (p, q)

-- nor does it clear one
pub latch_kept : (M : ℕ) (e : Element) → (element_after M false e).latch ≡ e.latch
unfolding element_after
latch_kept M e = by e.latch
  where
    by : (b : Bool) → (b || false) ≡ b
    by true = refl
    by false = refl
