-- Linear forms of three numbers, by their coefficients: the group operation, what the matching multiplies by K/65,536 and the ideal currents
-- are each the value of a form, whose coefficients are the values at p, n and q alone.
use mathlib.Core.Path.{◌≡◌, refl, sym}
use mathlib.Core.Bool.{Bool, true, false}
use Prim.Native.Nat.{ℕ, ◌+◌, ◌*◌, ◌-◌, ◌%◌, ◌<◌}
use native.Mathlib.Nat.{mod-lt}
use native.Mathlib.Omega.{arith}
use lib.IntN.{ℤ, pos, neg_ℤ, nat_abs, ◌+ℤ◌, ◌-ℤ◌, ◌*ℤ◌}
use Rattle.integer.specs.Within.{◌within◌}
use Rattle.lists.specs.Lists.{up_to}
use Rattle.integer.proofs.Reading.{ints, linear}
use Rattle.integer.proofs.Laws.{ring, within-≤, within-+, within-*, within_self}
use Rattle.lists.proofs.Fill.{place}
use Rattle.matching.specs.declared.Three.{Three}
use Rattle.matching.specs.Matching.{three, operation, sum3, less_zero, operated}
use Rattle.matching.specs.Bank.{line_current, gained, ideal}
use Rattle.matching.specs.Weights.{own, next, before, parts}

-- the worked numbers, which are checked before what rests on the definitions

-- ---- sums of three products

abbrev value : (a b c x y z : ℤ) → ℤ
value a b c x y z = a *ℤ x +ℤ b *ℤ y +ℤ c *ℤ z

module _ (a b c x y z : ℤ) where
  negated_value : value (neg_ℤ a) (neg_ℤ b) (neg_ℤ c) x y z ≡ neg_ℤ (value a b c x y z)
  negated_value = simp ints (omega arith)

  times_value : (k : ℤ) → value (k *ℤ a) (k *ℤ b) (k *ℤ c) x y z ≡ k *ℤ value a b c x y z
  times_value k = simp ring (simp linear (omega arith))

  plus_value : (d e f : ℤ) → value (a +ℤ d) (b +ℤ e) (c +ℤ f) x y z ≡ value a b c x y z +ℤ value d e f x y z
  plus_value d e f = simp ring (simp linear (omega arith))

  minus_value : (d e f : ℤ) → value (a -ℤ d) (b -ℤ e) (c -ℤ f) x y z ≡ value a b c x y z -ℤ value d e f x y z
  minus_value d e f = simp ring (simp linear (omega arith))

less_plus : (a b d e : ℤ) → (pos 3 *ℤ a -ℤ d) +ℤ (pos 3 *ℤ b -ℤ e) ≡ pos 3 *ℤ (a +ℤ b) -ℤ (d +ℤ e)
less_plus a b d e = simp ints (omega arith)

less_negated : (a d : ℤ) → neg_ℤ (pos 3 *ℤ a -ℤ d) ≡ pos 3 *ℤ neg_ℤ a -ℤ neg_ℤ d
less_negated a d = simp ints (omega arith)

-- ---- the value of a form at three numbers

infixl 7 ◌·◌
unfoldable pub ◌·◌ : Three → Three → ℤ
f · x = value f.p f.n f.q x.p x.n x.q

-- its coefficients, by its values
abbrev pub form_of : (Three → ℤ) → Three
form_of t = three (t own) (t next) (t before)

pub record Linear (t : Three → ℤ) : Type 0 where
  pub is : (x : Three) → t x ≡ form_of t · x

-- ---- what is linear

pub linear_p : Linear (λ x. x.p)
unfolding ◌·◌
linear_p = record { is = λ x. simp ints (omega arith) }

pub linear_n : Linear (λ x. x.n)
unfolding ◌·◌
linear_n = record { is = λ x. simp ints (omega arith) }

pub linear_q : Linear (λ x. x.q)
unfolding ◌·◌
linear_q = record { is = λ x. simp ints (omega arith) }

pub linear_times : (k : ℤ) {t : Three → ℤ} → Linear t → Linear (λ x. k *ℤ t x)
unfolding ◌·◌
linear_times k {t} h = record { is = λ x. rw (h.is x) (sym (times_value (t own) (t next) (t before) x.p x.n x.q k)) }

pub linear-+ : {s t : Three → ℤ} → Linear s → Linear t → Linear (λ x. s x +ℤ t x)
unfolding ◌·◌
linear-+ {s} {t} h k =
    record { is = λ x. rw (h.is x, k.is x) (sym (plus_value (s own) (s next) (s before) x.p x.n x.q (t own) (t next) (t before))) }

pub linear-- : {s t : Three → ℤ} → Linear s → Linear t → Linear (λ x. s x -ℤ t x)
unfolding ◌·◌
linear-- {s} {t} h k =
    record { is = λ x. rw (h.is x, k.is x) (sym (minus_value (s own) (s next) (s before) x.p x.n x.q (t own) (t next) (t before))) }

-- a form at linear numbers
pub linear_form : (f : Three) {a b c : Three → ℤ} → Linear a → Linear b → Linear c → Linear (λ x. f · three (a x) (b x) (c x))
unfolding ◌·◌
linear_form f h k l = linear-+ (linear-+ (linear_times f.p h) (linear_times f.n k)) (linear_times f.q l)

pub linear_sum : Linear (λ x. sum3 x)
linear_sum = linear-+ (linear-+ linear_p linear_n) linear_q

pub linear_less : {t : Three → ℤ} → Linear t → Linear (λ x. less_zero x (t x))
linear_less h = linear-- (linear_times (pos 3) h) linear_sum

-- ---- the group operation

-- the form whose coefficients are T(g) of those of three forms
abbrev of_forms : ℕ → (a b c : Three) → Three
of_forms g a b c = three (operation g a.p b.p c.p) (operation g a.n b.n c.n) (operation g a.q b.q c.q)

-- T(g) of the values of three forms is its value: one equation of the lists of twelve
operation-· : (g : ℕ) → g < 12 → (a b c x : Three) → operation g (a · x) (b · x) (c · x) ≡ of_forms g a b c · x
unfolding operation ◌·◌ up_to
operation-· g l a b c x =
    place (pos 0) (λ k. of_forms k a b c · x) {t = up_to 12 (λ k. operation k (a · x) (b · x) (c · x))} (simp (minus_value, negated_value)) g l

-- T(g) of three numbers less d, three times, is that of the numbers less that of d
pub operation_less : (g : ℕ) → g < 12 → (a b c d : ℤ) →
    operation g (pos 3 *ℤ a -ℤ d) (pos 3 *ℤ b -ℤ d) (pos 3 *ℤ c -ℤ d) ≡ pos 3 *ℤ operation g a b c -ℤ operation g d d d
unfolding operation up_to
operation_less g l a b c d =
    place (pos 0) (λ k. pos 3 *ℤ operation k a b c -ℤ operation k d d d)
    {t = up_to 12 (λ k. operation k (pos 3 *ℤ a -ℤ d) (pos 3 *ℤ b -ℤ d) (pos 3 *ℤ c -ℤ d))} (simp (less_plus, less_negated)) g l

pub linear_operation : (g : ℕ) → g < 12 → {a b c : Three → ℤ} → Linear a → Linear b → Linear c → Linear (λ x. operation g (a x) (b x) (c x))
linear_operation g m {a} {b} {c} h k l =
    record { is = λ x. rw (h.is x, k.is x, l.is x) (operation-· g m (form_of a) (form_of b) (form_of c) x) }

pub linear_group : (g : ℕ) → g < 12 → Linear (λ x. operation g x.p x.n x.q)
linear_group g h = linear_operation g h linear_p linear_n linear_q

-- ---- what the matching multiplies, in parts of 4053, and the ideal currents

pub linear_parts : (e f : Bool) (g : ℕ) → g < 12 → Linear (λ x. parts (operated e f g x))
unfolding operated
linear_parts true false g h = linear_times (pos 4053) (linear_group g h)
linear_parts true true g h = linear_times (pos 1351) (linear_operation g h (linear_less linear_p) (linear_less linear_n) (linear_less linear_q))
linear_parts false true g h = linear_times (pos 3) (linear_times (pos 780) (linear_group g h))
linear_parts false false g h =
    linear_times (pos 1) (linear-+ (linear_times (pos 3) (linear_times (pos 780) (linear_group g h))) (linear_times (pos 1351) linear_sum))

pub linear_line : (e : Bool) (g : ℕ) → Linear (λ w. (line_current e g w).top)
unfolding line_current
linear_line true g = linear_group ((12 - g) % 12) (mod-lt (12 - g) (omega arith))
linear_line false g = linear_times (pos 1351) (linear_group ((12 - g) % 12) (mod-lt (12 - g) (omega arith)))

pub linear_ideal : (e f : Bool) (g : ℕ) → Linear (λ w. (ideal e f g w).top)
unfolding ideal gained line_current
linear_ideal true f g = linear_line true g
linear_ideal false true g = linear_line false g
linear_ideal false false g = linear-+ (linear_times (pos 3) (linear_line false g)) (linear_times (pos 2340) linear_sum)

pub ideal_under : (e f : Bool) (g : ℕ) (w u : Three) → (ideal e f g w).under ≡ (ideal e f g u).under
unfolding ideal gained line_current
ideal_under true f g w u = refl
ideal_under false true g w u = refl
ideal_under false false g w u = refl

-- ---- sizes

-- |p| + |n| + |q| of a form
abbrev pub size : Three → ℕ
size f = nat_abs f.p + nat_abs f.n + nat_abs f.q

-- a form at three numbers within b
pub form_within : (f : Three) {x : Three} {b : ℕ} → x.p within b → x.n within b → x.q within b → (f · x) within (size f * b)
unfolding ◌·◌
form_within f h k l =
    within-≤
    (within-+ (within-+ (within-* (within_self f.p) h) (within-* (within_self f.n) k)) (within-* (within_self f.q) l))
    (omega arith)
