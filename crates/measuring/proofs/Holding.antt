-- Common blocking (§ Characteristic and trip 3): a system holds back others by its harmonics and its D, which its own numbers tell. So one with harmonics
-- and a D above P blocks all three, and one with a D of at most P holds back none, whatever its numbers are.
use mathlib.Core.Path.{◌≡◌, refl, sym, ap, ◌∙◌}
use mathlib.Core.Logic.{◌≢◌}
use mathlib.Core.Bool.{Bool, true, false, ◌&&◌, ◌||◌, or-true, and-false, and-eq-true_iff, true≢false}
use mathlib.Core.List.{List}
use Prim.Native.Nat.{ℕ}
use native.Mathlib.Decide.{ℕ_discrete}
use lib.Dec.{ltb}
use lib.IntN.{ℤ}
use borrow.Author.Tests.{lt-ltb, le-ltb, ltb-true}
use Rattle.integer.proofs.SumLaws.{sum_same}
use Rattle.setting.specs.declared.Setting.{Setting}
use Rattle.matching.specs.Sets.{System, sys_a, sys_b, sys_c, index, system}
use Rattle.amplitude.specs.Amplitude.{amplitude}
use Rattle.amplitude.proofs.Same.{amplitude_same}
use Rattle.characteristic.specs.Characteristic.{common_on, holds_back}
use Rattle.measuring.specs.Window.{at, sums}
use Rattle.measuring.specs.Measuring.{differential, harmonics, holding, blocked}
use Rattle.measuring.specs.Holding.{Holder, Another, Unloaded, AlikeBut, CommonBlocking}

-- ---- tests

and_no : (a b : Bool) → b ≡ false → (a && b) ≡ false
and_no a b e = rw e (and-false a)

or_yes : (a b : Bool) → b ≡ true → (a || b) ≡ true
or_yes a b e = rw e (or-true a)

the_other : (a b : Bool) → a ≡ false → (a || b) ≡ true → b ≡ true
the_other true b e h = absurd (true≢false e)
the_other false b e h = h

one_of : (a b c : Bool) {X : Type 0} → (a || (b || c)) ≡ true → (a ≡ true → X) → (b ≡ true → X) → (c ≡ true → X) → X
one_of true b c e x y z = x refl
one_of false true c e x y z = y refl
one_of false false c e x y z = z e

-- ---- systems

system_index : (l : System) → system (index l) ≡ l
system_index sys_a = refl
system_index sys_b = refl
system_index sys_c = refl

same_or_not : (l m : System) → Dec (l ≡ m)
same_or_not l m = by (ℕ_discrete (index l) (index m))
  where
    by : Dec (index l ≡ index m) → Dec (l ≡ m)
    by (yes e) = yes (sym (system_index l) ∙ ap system e ∙ system_index m)
    by (no n) = no (λ q. n (ap index q))

-- ---- who holds back others

module _ (v : Setting) (win : List ℤ) where
  abbrev above : System → Bool
  above m = ltb v.thresholds.basic (differential v win m)

  holding_is : (m : System) → holding v win m ≡ (harmonics v win m && above m)
  unfolding holding holds_back harmonics
  holding_is m = refl

  holding_no : (m : System) → Unloaded v win m → holding v win m ≡ false
  holding_no m u = holding_is m ∙ and_no (harmonics v win m) (above m) (le-ltb v.thresholds.basic (differential v win m) u)

  holding_yes : (m : System) → Holder v win m → holding v win m ≡ true
  holding_yes m h =
      holding_is m ∙ (and-eq-true_iff (harmonics v win m) (above m)).1 (h.has, lt-ltb v.thresholds.basic (differential v win m) h.above)

  holder : common_on v ≡ true → (m : System) → holding v win m ≡ true → Holder v win m
  holder on m e =
      let is = (and-eq-true_iff (harmonics v win m) (above m)).0 (sym (holding_is m) ∙ e) in
      record { common = on; has = is.0; above = ltb-true v.thresholds.basic (differential v win m) is.1 }

  abbrev any : Bool
  any = holding v win sys_a || (holding v win sys_b || holding v win sys_c)

  any_yes : (m : System) → holding v win m ≡ true → any ≡ true
  any_yes sys_a e = rw e
  any_yes sys_b e = rw e (or-true (holding v win sys_a))
  any_yes sys_c e = rw (e, or-true (holding v win sys_b)) (or-true (holding v win sys_a))

  all_blocked : (m : System) → Holder v win m → (l : System) → blocked v win l ≡ true
  unfolding blocked
  all_blocked m h l = or_yes (harmonics v win l) (common_on v && any) ((and-eq-true_iff (common_on v) any).1 (h.common, any_yes m (holding_yes m h)))

  own_blocked : (l : System) → harmonics v win l ≡ true → blocked v win l ≡ true
  unfolding blocked
  own_blocked l e = rw e

  held_by_lem : (l : System) → harmonics v win l ≡ false → blocked v win l ≡ true → Another v win l
  unfolding blocked
  held_by_lem l none b =
      let is : (common_on v ≡ true) × (any ≡ true) = (and-eq-true_iff (common_on v) any).0 (the_other (harmonics v win l) (common_on v && any) none b) in
      one_of (holding v win sys_a) (holding v win sys_b) (holding v win sys_c) is.1 (by is.0 sys_a) (by is.0 sys_b) (by is.0 sys_c)
    where
      by : common_on v ≡ true → (m : System) → holding v win m ≡ true → Another v win l
      by on m e =
          let h = holder on m e in
          record { one = m; other = λ q. true≢false (sym h.has ∙ ap (harmonics v win) q ∙ none); holder = h }

-- ---- windows that differ in one system

module _ (v : Setting) (win win' : List ℤ) (m : System) (alike : AlikeBut m win win') where
  of_sums_lem : (l : System) → l ≢ m → (h : ℕ) → amplitude h (sums v.ends win l) ≡ amplitude h (sums v.ends win' l)
  of_sums_lem l n h =
      amplitude_same (sums v.ends win l) (sums v.ends win' l)
      (λ k i. sum_same (λ z. at win k z l) (λ z. at win' k z l) v.ends (λ z j. alike l n k z)) h

  harmonics_alike : (l : System) → l ≢ m → harmonics v win l ≡ harmonics v win' l
  unfolding harmonics
  harmonics_alike l n = rw (of_sums_lem l n 1, of_sums_lem l n 2, of_sums_lem l n 5)

  holding_alike : Unloaded v win m → Unloaded v win' m → (l : System) → holding v win l ≡ holding v win' l
  unfolding holding
  holding_alike u u' l = by (same_or_not l m)
    where
      by : Dec (l ≡ m) → holding v win l ≡ holding v win' l
      by (yes e) = rw (e, holding_no v win m u, holding_no v win' m u')
      by (no n) = rw (of_sums_lem l n 1, of_sums_lem l n 2, of_sums_lem l n 5)

  blocked_alike : Unloaded v win m → Unloaded v win' m → (l : System) → l ≢ m → blocked v win l ≡ blocked v win' l
  unfolding blocked
  blocked_alike u u' l n =
      rw (harmonics_alike l n, holding_alike u u' sys_a, holding_alike u u' sys_b, holding_alike u u' sys_c)

pub common_blocking : CommonBlocking
unfolding CommonBlocking
common_blocking v win =
    record {
      all = all_blocked v win;
      own = own_blocked v win;
      held = held_by_lem v win;
      unloaded = λ m u win' alike u' l n. blocked_alike v win win' m alike u u' l n;
    }
