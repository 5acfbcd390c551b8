-- The parts of the relay record (§ The relay record 1; § Characteristic and trip 5 and 6): counters and latches, and the window.
use Rattle.std.specs.Prelude.{◌≡◌, Bool, false, ◌&&◌, ◌||◌, cond, List, [], ◌∷◌, ◌++◌, ℕ, ◌+◌, ◌*◌, leb, ltb, eqb, ℤ, nat_abs, length, take, drop}
use Rattle.bits.specs.declared.Bits.{Bits}
use Rattle.bits.specs.Bits.{mask_of}
use Rattle.matching.specs.Sets.{System, sys_a, sys_b, sys_c}
use Rattle.state.specs.declared.Element.{Element}
use Rattle.systems.specs.declared.Systems.{Systems}
use Rattle.state.specs.declared.Window.{Window}

-- ---- the counter and the latch of a system

abbrev pub element_of : Systems Element → System → Element
element_of t sys_a = t.a
element_of t sys_b = t.b
element_of t sys_c = t.c

-- something of each system
abbrev pub per_system : (System → Element) → Systems Element
per_system f = record { a = f sys_a; b = f sys_b; c = f sys_c }

-- at a counting set the counter grows by one, at most to M; a set that does not count clears it
abbrev pub counter_after : (M : ℕ) (counts : Bool) → ℕ → ℕ
counter_after M counts c = cond counts (cond (ltb c M) (c + 1) M) 0

-- when it is then M, the trip latches; nothing but a reset clears the latch
unfoldable pub element_after : (M : ℕ) (counts : Bool) → Element → Element
element_after M counts e =
    record { count = counter_after M counts e.count; latch = e.latch || (counts && eqb (counter_after M counts e.count) M) }

abbrev pub clear : Element
clear = record { count = 0; latch = false }

-- the latches of systems 1, 2, 3; and the sum of 1, 2, 4 for those latched
abbrev pub latches_of : Systems Element → Bits
latches_of t = record { b0 = t.a.latch; b1 = t.b.latch; b2 = t.c.latch }

abbrev pub latch_sum : Systems Element → ℕ
latch_sum t = mask_of (latches_of t)

-- ---- refusal 12, in part

-- no matched number beyond ±800,000
abbrev pub number_within : ℤ → Bool
number_within x = leb (nat_abs x) 800000

-- no counter above M
abbrev pub counters_within : (M : ℕ) → Systems Element → List Bool
counters_within M t = leb t.a.count M ∷ leb t.b.count M ∷ leb t.c.count M ∷ []

-- ---- the window, and what a set makes of it

-- it holds twelve
abbrev pub full : Window → Bool
full w = eqb w.fill 12

-- a set's twelve numbers are filed after the sets held
abbrev pub after_held : Window → List ℤ → Window
after_held w ns = record { values = take (12 * w.fill) w.values ++ (ns ++ drop (12 * w.fill + 12) w.values); fill = w.fill + 1 }

-- or, where twelve are held, at the end, once the oldest has gone
abbrev pub at_end : Window → List ℤ → Window
at_end w ns = record { values = drop 12 w.values ++ ns; fill = 12 }

unfoldable pub window_with : Window → List ℤ → Window
window_with w ns = cond (ltb w.fill 12) (after_held w ns) (at_end w ns)

-- what filing a set gives: that window, of 144 numbers
pub record Files (w : Window) (ns : List ℤ) (r : Window) : Type 0 where
  pub window : r ≡ window_with w ns
  pub long : length r.values ≡ 144
