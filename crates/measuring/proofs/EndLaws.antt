-- The ends' amplitudes. A store at a time, the places passed hold the amplitudes of their numbers, and those from n on 0. Those of all numbers, and those
-- from y on in steps of three, have the ends of system y. So with three or four ends R is the sum of its four places.
use mathlib.Core.Path.{◌≡◌, refl, ◌∙◌}
use mathlib.Core.Logic.{◌≢◌}
use mathlib.Core.Bool.{Bool, true, false, not, ◌&&◌, and-false, cond}
use mathlib.Core.List.{List}
use Prim.Native.Nat.{ℕ, ◌+◌, ◌*◌, ◌≤◌, ◌<◌}
use native.Mathlib.Decide.{ℕ_discrete}
use native.Mathlib.Nat.{mul-le-mul_right}
use native.Mathlib.Omega.{arith}
use lib.Dec.{T, eqb, ltb, ltb→lt, nltb→le}
use lib.IntN.{ℤ}
use lib.ListN.{length, get_or, set, length-set}
use lib.Seq.{get_or-set_same, get_or-set_other}
use borrow.Author.Tests.{ne_eqb}
use Rattle.lists.proofs.TestLaws.{is_true}
use Rattle.matching.specs.Sets.{System, sys_a, sys_b, sys_c, index, system}
use Rattle.amplitude.specs.Amplitude.{amplitude}
use Rattle.measuring.specs.Window.{series}
use Rattle.measuring.specs.WindowInput.{Ends}
use Rattle.measuring.specs.Folded.{Folds, FirstOf, part_at, first_by, twice_restraint_by}
use Rattle.measuring.specs.Ends.{part_of, AmplitudesFrom, StepsInput, taken, EndsOf, MadeOf}
use Rattle.measuring.proofs.PartLaws.{first_at}

-- ---- the amplitudes, a store at a time

-- k steps are t where they are not below t and below one more
same_step : (s t k : ℕ) → t * s ≤ k * s → k * s < t * s + s → k * s ≡ t * s
same_step s t k l h = by (ltb t k) (ltb→lt t k) (nltb→le t k)
  where
    by : (b : Bool) → (T b → t < k) → (T (not b) → k ≤ t) → k * s ≡ t * s
    by true more less = let m : t + 1 ≤ k = omega (arith, more tt) in absurd (omega (arith, mul-le-mul_right s m))
    by false more less = omega (arith, mul-le-mul_right s (less tt))

module _ {f : List ℤ} {first step n : ℕ} where
  pub amplitudes_none : {a : List ℕ} → length a ≡ 12 → ((i : ℕ) → get_or a i 0 ≡ 0) → AmplitudesFrom f first step first n a
  amplitudes_none l zeros =
      record { long = l; is = λ i k e h. absurd (omega arith); none = λ i h. zeros i; small = λ i. omega (arith, zeros i) }

  pub amplitudes_more : {j x : ℕ} {a : List ℕ} → AmplitudesFrom f first step j n a → (t : ℕ) → j ≡ first + t * step → j < n → n ≤ 12 →
      FirstOf (λ p. part_of f p j) x → AmplitudesFrom f first step (j + step) n (set a j x)
  amplitudes_more {j} {x} {a} h t at l twelve e =
      record {
        long = simp length-set h.long;
        is = λ i k s m. is i k s m (ℕ_discrete i j);
        none = λ i m. other i (omega arith) ∙ h.none i m;
        small = λ i. small i (ℕ_discrete i j);
      }
    where
      here : get_or (set a j x) j 0 ≡ x
      here = get_or-set_same a j x 0 (omega (arith, h.long))

      other : (i : ℕ) → i ≢ j → get_or (set a j x) i 0 ≡ get_or a i 0
      other i d = get_or-set_other a j i x 0 d

      -- a place that was stepped on by now, and is not this one, came before it
      below : (i k : ℕ) → i ≡ first + k * step → i < j + step → i ≢ j → i < j
      below i k s m d = by (ltb i j) (ltb→lt i j) (nltb→le i j)
        where
          by : (b : Bool) → (T b → i < j) → (T (not b) → j ≤ i) → i < j
          by true less more = less tt
          by false less more = absurd (d (omega (arith, same_step step t k (omega (arith, more tt)) (omega arith))))

      is : (i k : ℕ) → i ≡ first + k * step → i < j + step → Dec (i ≡ j) → get_or (set a j x) i 0 ≡ first_by (λ p. part_of f p i)
      is i k s m (yes q) = rw (q, here) e.is
      is i k s m (no d) = other i d ∙ h.is i k s (below i k s m d)

      small : (i : ℕ) → Dec (i ≡ j) → get_or (set a j x) i 0 ≤ 32000000
      small i (yes q) = rw (q, here) e.small
      small i (no d) = rw (other i d) (h.small i)

  -- once all below n are passed
  pub amplitudes_all : {j : ℕ} {a : List ℕ} → AmplitudesFrom f first step j n a → n ≤ j → AmplitudesFrom f first step n n a
  amplitudes_all h past = record { long = h.long; is = λ i k s m. h.is i k s (omega arith); none = h.none; small = h.small }

-- ---- how many are taken

module _ (E : ℕ) (asked : Bool) where
  taken_within : Ends E → taken E asked ≤ 12
  unfolding taken
  taken_within h = by (eqb E 2 && not asked)
    where
      by : (b : Bool) → cond b 0 (3 * E) ≤ 12
      by true = omega arith
      by false = omega (arith, h.four)

  taken_three : 3 ≤ E → taken E asked ≡ 3 * E
  unfolding taken
  taken_three h = rw (ne_eqb E 2 (λ e. absurd (omega arith)))

  taken_asked : T asked → taken E asked ≡ 3 * E
  unfolding taken
  taken_asked h = let e : asked ≡ true = is_true h in rw (e, and-false (eqb E 2))

-- ---- the ends of a system

module _ {f : List ℤ} {E n : ℕ} {a : List ℕ} (e : n ≡ 3 * E) (y : ℕ) (l : y < 3) where
  -- among those of all numbers
  of_all : AmplitudesFrom f 0 1 n n a → EndsOf E f y a
  of_all h =
      record {
        is = λ i z s m. h.is i i (omega arith) (omega arith) ∙ rw s;
        none = λ i z s m. h.none i (omega arith);
        small = h.small;
      }

  -- from y on in steps of three
  of_one : AmplitudesFrom f y 3 n n a → EndsOf E f y a
  of_one h =
      record {
        is = λ i z s m. h.is i z (omega arith) (omega arith) ∙ rw s;
        none = λ i z s m. h.none i (omega arith);
        small = h.small;
      }

-- R
pub restraint_by_ends : {E y : ℕ} {f : List ℤ} {a : List ℕ} → EndsOf E f y a → 3 ≤ E → E ≤ 4 →
    get_or a y 0 + get_or a (3 + y) 0 + get_or a (6 + y) 0 + get_or a (9 + y) 0 ≡ twice_restraint_by E f y
unfolding twice_restraint_by
restraint_by_ends {E} {y} {f} {a} h three four = by (ℕ_discrete E 3)
  where
    first : get_or a y 0 ≡ first_by (λ p. part_at f p 0 y)
    first = h.is y 0 (omega arith) (omega arith)

    second : get_or a (3 + y) 0 ≡ first_by (λ p. part_at f p 1 y)
    second = h.is (3 + y) 1 (omega arith) (omega arith)

    third : get_or a (6 + y) 0 ≡ first_by (λ p. part_at f p 2 y)
    third = h.is (6 + y) 2 (omega arith) (omega arith)

    by : Dec (E ≡ 3) → get_or a y 0 + get_or a (3 + y) 0 + get_or a (6 + y) 0 + get_or a (9 + y) 0 ≡ twice_restraint_by E f y
    by (yes e) = rw (e, first, second, third, h.none (9 + y) 3 (omega arith) (omega arith)) (omega arith)
    by (no d) = let e : E ≡ 4 = omega arith in rw (e, first, second, third, h.is (9 + y) 3 (omega arith) (omega arith)) (omega arith)

-- ---- what the code hands on

module _ {E n : ℕ} (asked : Bool) (e : n ≡ taken E asked) where
  pub steps_ready : (first step : ℕ) → Ends E → first ≤ 3 → 1 ≤ step → step ≤ 3 → StepsInput first step n
  steps_ready first step ends start some few = record { start = start; some = some; few = few; within = rw e (taken_within E asked ends) }

  module _ {y : ℕ} {f : List ℤ} {a : List ℕ} (l : y < 3) where
    pub made_by_all : AmplitudesFrom f 0 1 n n a → MadeOf E f y a
    made_by_all h three = of_all (e ∙ taken_three E asked three) y l h

    pub made_by_one : AmplitudesFrom f y 3 n n a → MadeOf E f y a
    made_by_one h three = of_one (e ∙ taken_three E asked three) y l h

  -- asked for, they are those of the window
  pub asked_are : {win f : List ℤ} {a : List ℕ} → Folds win f → AmplitudesFrom f 0 1 n n a → E ≤ 4 → T asked → (z : ℕ) → z < E → (l : System) →
      get_or a (3 * z + index l) 0 ≡ amplitude 1 (series win z l)
  asked_are {win} {a} folds h four t z lz l = of l
    where
      at : (y : ℕ) → y < 3 → get_or a (3 * z + y) 0 ≡ amplitude 1 (series win z (system y))
      at y ly = (of_all {E = E} (e ∙ taken_asked E asked t) y ly h).is (3 * z + y) z refl lz ∙ first_at folds y ly z (omega arith)

      of : (l : System) → get_or a (3 * z + index l) 0 ≡ amplitude 1 (series win z l)
      of sys_a = at 0 (omega arith)
      of sys_b = at 1 (omega arith)
      of sys_c = at 2 (omega arith)
