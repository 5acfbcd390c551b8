-- `matching::operated` meets its contract: each number on the way is within a literal bound, and each case is the definition's, times 4053/under.
use borrow.Author.Tests.{eq-eqb, ne_eqb}
use mathlib.Core.Path.{◌≡◌, refl, ◌∙◌}
use mathlib.Core.Bool.{Bool}
use Prim.Native.Nat.{ℕ, ◌^◌, ◌≤◌, ◌<◌}
use native.Mathlib.Omega.{arith}
use lib.Dec.{lit≤}
use lib.IntN.{ℤ, ◌+ℤ◌}
use Rattle.integer.proofs.Reading.{ints}
use Rattle.integer.proofs.Laws.{within-≤, within_is}
use Rattle.matching.specs.Matching.{even, operation, operated}
use Rattle.matching.specs.declared.Three.{Three}
use Rattle.matching.specs.Weights.{parts}
use Rattle.matching.specs.MatchingInput.{OperationInput, OperatedInput}
use Rattle.matching.proofs.Bits.{kept, Number, given, fits, read, times, plus, minus}
use Rattle.matching.proofs.Forms.{operation_less}
use Rattle.matching.proofs.Rows.{operation_within}
use Rattle.matching.proofs.operated.Goals as goal

-- ---- T(g) of three numbers of the code

module _ {a b d u v w : ℤ} {m : ℕ} (x : Number a u m) (y : Number b v m) (z : Number d w m) (l : m ≤ 2 ^ 20) where
  taken : OperationInput (kept a) (kept b) (kept d)
  taken =
      record {
        own = within_is (read x) (within-≤ x.size l);
        next = within_is (read y) (within-≤ y.size l);
        before = within_is (read z) (within-≤ z.size l);
      }

  called : {g : ℕ} {r : ℤ} → g < 12 → r ≡ operation g (kept a) (kept b) (kept d) → Number r (operation g u v w) (2 ^ 21)
  called h e = record { is = e ∙ rw (read x, read y, read z); size = rw (read x, read y, read z) at (operation_within h taken); few = refl }

-- ---- the numbers, by the names of the code

module _ {g : ℕ} {x : Three} (h : OperatedInput g x) where
  s : Number (kept (kept x.p +ℤ kept x.n) +ℤ kept x.q) (x.p +ℤ x.n +ℤ x.q) 96000
  s = plus (plus (given h.own refl) (given h.next refl) refl) (given h.before refl) refl

  t : {r : ℤ} → r ≡ operation g x.p x.n x.q → Number r (operation g x.p x.n x.q) (2 ^ 21)
  t e = called (given h.own refl) (given h.next refl) (given h.before refl) (lit≤ tt) h.group (e ∙ rw (read (given h.own refl), read (given h.next refl), read (given h.before refl)))

  -- of the sum
  u : {r : ℤ} → let k = kept (kept (kept x.p +ℤ kept x.n) +ℤ kept x.q) in r ≡ operation g k k k →
      let y = x.p +ℤ x.n +ℤ x.q in Number r (operation g y y y) (2 ^ 21)
  u e = called s s s (lit≤ tt) h.group e

-- a case of the definition
case : (g : ℕ) (x : Three) {e f filter : Bool} {r : ℤ} → even g ≡ e → filter ≡ f → r ≡ parts (operated e f g x) → r ≡ parts (operated (even g) filter g x)
case g x h k v = rw (h, k) v

-- ---- the needs

pub overflow_mul-u : goal.overflow_mul-u
overflow_mul-u c = fits (times (t c.requires c.operation-t.ensures) _ refl)

pub overflow_mul-result : goal.overflow_mul-result
overflow_mul-result c = fits (times (u c.requires c.operation.ensures) _ refl)

pub overflow_sub-result : goal.overflow_sub-result
overflow_sub-result c = fits (minus (times (t c.requires c.operation-t.ensures) _ refl) (times (u c.requires c.operation.ensures) _ refl) refl)

pub returns-then-filter : goal.returns-then-filter
unfolding operated
returns-then-filter c =
    case _ _ (eq-eqb _ _ c.if-g-eq0.true) c.if-filter.true
    (read (minus (times (t c.requires c.operation-t.ensures) _ refl) (times (u c.requires c.operation.ensures) _ refl) refl)
    ∙ rw (operation_less c.args.g c.requires.group) (simp ints (omega arith)))

pub returns-then-g-eq0 : goal.returns-then-g-eq0
unfolding operated
returns-then-g-eq0 c = case _ _ (eq-eqb _ _ c.if-g-eq0.true) c.if-filter.false (read (times (t c.requires c.operation-t.ensures) _ refl))

pub overflow_mul-u-2 : goal.overflow_mul-u-2
overflow_mul-u-2 c = fits (times (t c.requires c.operation-t.ensures) _ refl)

pub returns-then-filter-2 : goal.returns-then-filter-2
unfolding operated
returns-then-filter-2 c =
    case _ _ (ne_eqb _ _ c.if-g-eq0.false) c.if-filter-2.true (read (times (t c.requires c.operation-t.ensures) _ refl) ∙ simp ints (omega arith))

pub overflow_add-result : goal.overflow_add-result
overflow_add-result c = fits (plus (times (t c.requires c.operation-t.ensures) _ refl) (times (s c.requires) _ refl) refl)

pub returns : goal.returns
unfolding operated
returns c =
    case _ _ (ne_eqb _ _ c.if-g-eq0.false) c.if-filter-2.false
    (read (plus (times (t c.requires c.operation-t.ensures) _ refl) (times (s c.requires) _ refl) refl) ∙ simp ints (omega arith))
