-- Statements about integers, read as statements about natural numbers, which is what `omega` proves.
-- An integer x is the difference of two naturals, `up x` and `dn x`, of which one is 0. The set `ints` is for `simp`: it reads each
-- term of a statement as such a difference, `a ⊖ b`, and the statement as one over ℕ.
--     lemma x y z = simp ints (omega arith)       a goal with its hypotheses, as  lemma : (x y z : ℤ) → x ≤ℤ y → (x -ℤ z) ≤ℤ (y -ℤ z)
--     h ⇒ k ⇒ simp ints (omega arith)             a goal, from facts h and k
--     simp ints (omega arithℤ)                    a goal, from all that is in reach, records' fields too, about terms with no operation in them
-- Statements: `≤ℤ`, `<ℤ`, `≡`, `within`, `nat_abs x ≤ n`, and what the machine asks and tells: `SFits`, `Fits w (nat_abs x)`, `mag x < n`, `non_neg`,
-- `lt_z`, `le_z`.
-- Terms: `+ℤ`, `-ℤ`, `*ℤ`, `neg_ℤ`, `pos n`, `negsuc n`; any other is an unknown. Products are multiplied out.
use mathlib.Core.Path.{◌≡◌, refl, sym, ap, subst}
use mathlib.Core.Bool.{Bool, true, false, not, cond}
use mathlib.Core.Logic.{◌↔◌}
use Prim.Native.Nat.{ℕ, zero, suc, ◌+◌, ◌*◌, ◌-◌, ◌^◌, ◌<◌, ◌≤◌}
use native.Mathlib.Nat.{mul-le-mul_left}
use native.Mathlib.Omega.{arith}
use lib.Dec.{T, ltb, ltb→lt, nltb→le, leb→le, le→leb, lt→ltb}
use lib.IntN.{ℤ, pos, negsuc, neg_ℤ, sub_ℕ, nat_abs, ◌+ℤ◌, ◌*ℤ◌}
use lib.Signed.{◌≤ℤ◌, ◌<ℤ◌, le_z, lt_z, mag, non_neg}
use mir.Syntax.{Width}
use mir.Val.{Fits, SFits, bits, hbits}
use Rattle.integer.specs.Within.{◌within◌}

-- `h ⇒ k ⇒ simp ints (omega arith)`: the goal, from the facts h and k, which become hypotheses of the goal
infixr 10 ◌⇒◌
pub ◌⇒◌ {ℓ κ} : {A : Type ℓ} {C : Type κ} → A → (A → C) → C
h ⇒ f = f h

abbrev pub up : ℤ → ℕ
up (pos n) = n
up (negsuc n) = 0

abbrev pub dn : ℤ → ℕ
dn (pos n) = 0
dn (negsuc n) = suc n

-- ---- what the parts of a term are

ruleset tests = (arith, ltb→lt, lt→ltb, leb→le, le→leb)

sub_by : (a b : ℕ) (t : Bool) → (T t → a < b) → (T (not t) → b ≤ a) → let z = cond t (negsuc (b - suc a)) (pos (a - b)) in up z + b ≡ a + dn z
sub_by a b true y n = let h = y tt in omega arith
sub_by a b false y n = let h = n tt in omega arith

sub_parts : (a b : ℕ) → up (sub_ℕ a b) + b ≡ a + dn (sub_ℕ a b)
sub_parts a b = sub_by a b (ltb a b) (ltb→lt a b) (nltb→le a b)

+-parts : (x y : ℤ) → up (x +ℤ y) + (dn x + dn y) ≡ (up x + up y) + dn (x +ℤ y)
+-parts (pos a) (pos b) = omega arith
+-parts (pos a) (negsuc b) = omega (arith, sub_parts a (suc b))
+-parts (negsuc a) (pos b) = omega (arith, sub_parts b (suc a))
+-parts (negsuc a) (negsuc b) = omega arith

neg_parts : (x : ℤ) → up (neg_ℤ x) + up x ≡ dn x + dn (neg_ℤ x)
neg_parts (pos zero) = refl
neg_parts (pos (suc n)) = omega arith
neg_parts (negsuc n) = omega arith

*-parts : (x y : ℤ) → up (x *ℤ y) + (up x * dn y + dn x * up y) ≡ (up x * up y + dn x * dn y) + dn (x *ℤ y)
*-parts (pos a) (pos b) = omega arith
*-parts (pos a) (negsuc b) = omega (arith, neg_parts (pos (a * suc b)))
*-parts (negsuc a) (pos b) = omega (arith, neg_parts (pos (suc a * b)))
*-parts (negsuc a) (negsuc b) = omega arith

-- ---- what a statement is, by the parts of its terms

≡-from : (x y : ℤ) → up x + dn y ≡ up y + dn x → x ≡ y
≡-from (pos a) (pos b) h = ap pos (omega arith)
≡-from (pos a) (negsuc b) h = absurd (omega arith)
≡-from (negsuc a) (pos b) h = absurd (omega arith)
≡-from (negsuc a) (negsuc b) h = ap negsuc (omega arith)

≤-parts : (x y : ℤ) → x ≤ℤ y ↔ up x + dn y ≤ up y + dn x
≤-parts (pos a) (pos b) = omega tests
≤-parts (pos a) (negsuc b) = omega tests
≤-parts (negsuc a) (pos b) = omega tests
≤-parts (negsuc a) (negsuc b) = omega tests

<-parts : (x y : ℤ) → x <ℤ y ↔ up x + dn y < up y + dn x
<-parts (pos a) (pos b) = omega tests
<-parts (pos a) (negsuc b) = omega tests
<-parts (negsuc a) (pos b) = omega tests
<-parts (negsuc a) (negsuc b) = omega tests

pub abs_is : (x : ℤ) → nat_abs x ≡ up x + dn x
abs_is (pos a) = omega arith
abs_is (negsuc a) = omega arith

abs_parts : (x : ℤ) (n : ℕ) → nat_abs x ≤ n ↔ (up x ≤ n + dn x) × (dn x ≤ n + up x)
abs_parts (pos a) n = omega arith
abs_parts (negsuc a) n = omega arith

abs-<-parts : (x : ℤ) (n : ℕ) → nat_abs x < n ↔ (up x < n + dn x) × (dn x < n + up x)
abs-<-parts (pos a) n = omega arith
abs-<-parts (negsuc a) n = omega arith

mag_parts : (x : ℤ) (n : ℕ) → mag x < n ↔ (up x < n + dn x) × (dn x ≤ n + up x)
mag_parts (pos a) n = omega arith
mag_parts (negsuc a) n = omega arith

non_neg_parts : (x : ℤ) → T (non_neg x) ↔ dn x ≤ up x
non_neg_parts (pos a) = omega arith
non_neg_parts (negsuc a) = omega arith

-- ---- the reading of a term

infix 45 ◌⊖◌
pub ◌⊖◌ : ℕ → ℕ → ℤ
a ⊖ b = sub_ℕ a b

⊖-parts : (a b : ℕ) → up (a ⊖ b) + b ≡ a + dn (a ⊖ b)
unfolding ◌⊖◌
⊖-parts = sub_parts

⊖-is : (x : ℤ) (a b : ℕ) → up x + b ≡ a + dn x → x ≡ a ⊖ b
⊖-is x a b h = ≡-from x (a ⊖ b) (omega (arith, ⊖-parts a b))

-- x, to be read
pub rd : ℤ → ℤ
rd x = x

pub rd-+ : (x y : ℤ) → rd (x +ℤ y) ≡ rd x +ℤ rd y
unfolding rd
rd-+ x y = refl

pub rd-* : (x y : ℤ) → rd (x *ℤ y) ≡ rd x *ℤ rd y
unfolding rd
rd-* x y = refl

pub rd_neg : (x : ℤ) → rd (neg_ℤ x) ≡ neg_ℤ (rd x)
unfolding rd
rd_neg x = refl

pub rd_any : (x : ℤ) → rd x ≡ up x ⊖ dn x
unfolding rd
rd_any x = ⊖-is x (up x) (dn x) refl

pub rd_lit : (n : ℕ) (x : ℤ) → rd (pos n *ℤ x) ≡ (n ⊖ 0) *ℤ rd x
unfolding rd
rd_lit n x = ap (λ (y : ℤ). y *ℤ x) (⊖-is (pos n) n 0 refl)

pub neg-⊖ : (a b : ℕ) → neg_ℤ (a ⊖ b) ≡ b ⊖ a
neg-⊖ a b = ⊖-is _ b a (omega (arith, ⊖-parts a b, neg_parts (a ⊖ b)))

module _ (a b c d : ℕ) where
  pub +-⊖ : (a ⊖ b) +ℤ (c ⊖ d) ≡ (a + c) ⊖ (b + d)
  +-⊖ = ⊖-is _ (a + c) (b + d) (omega (arith, ⊖-parts a b, ⊖-parts c d, +-parts (a ⊖ b) (c ⊖ d)))

  pub *-⊖ : (a ⊖ b) *ℤ (c ⊖ d) ≡ (a * c + b * d) ⊖ (a * d + b * c)
  *-⊖ =
      let h = ⊖-parts a b in
      let k = ⊖-parts c d in
      ⊖-is _ (a * c + b * d) (a * d + b * c)
      (omega (arith, *-parts (a ⊖ b) (c ⊖ d), ap (λ n. n * up (c ⊖ d)) h, ap (λ n. n * dn (c ⊖ d)) h, ap (λ n. a * n) k, ap (λ n. b * n) k))

-- ---- the reading of a statement: x ≤ y, x < y and x ≡ y of two terms to be read, and the rest by these

pub Le : ℤ → ℤ → Type 0
Le x y = x ≤ℤ y

pub Lt : ℤ → ℤ → Type 0
Lt x y = x <ℤ y

pub Eq : ℤ → ℤ → Type 0
Eq x y = x ≡ y

module _ (a b c d : ℕ) where
  pub le-⊖ : Le (a ⊖ b) (c ⊖ d) ↔ a + d ≤ c + b
  unfolding Le
  le-⊖ = simp ≤-parts (omega (arith, ⊖-parts a b, ⊖-parts c d))

  pub lt-⊖ : Lt (a ⊖ b) (c ⊖ d) ↔ a + d < c + b
  unfolding Lt
  lt-⊖ = simp <-parts (omega (arith, ⊖-parts a b, ⊖-parts c d))

  pub eq-⊖ : Eq (a ⊖ b) (c ⊖ d) ↔ a + d ≡ c + b
  unfolding Eq
  eq-⊖ = (λ h. omega (arith, ⊖-parts a b, ⊖-parts c d, ap up h, ap dn h), λ h. ≡-from _ _ (omega (arith, ⊖-parts a b, ⊖-parts c d)))

module _ (x y : ℤ) where
  pub read-≤ : x ≤ℤ y ↔ Le (rd x) (rd y)
  unfolding Le rd
  read-≤ = (λ h. h, λ h. h)

  pub read-< : x <ℤ y ↔ Lt (rd x) (rd y)
  unfolding Lt rd
  read-< = (λ h. h, λ h. h)

  pub read-≡ : x ≡ y ↔ Eq (rd x) (rd y)
  unfolding Eq rd
  read-≡ = (λ h. h, λ h. h)

ruleset inside = (rd_neg, rd_any, neg-⊖, le-⊖, lt-⊖)

module _ (x : ℤ) (n : ℕ) where
  pub read-abs-≤ : nat_abs x ≤ n ↔ Le (rd x) (n ⊖ 0) × Le (rd (neg_ℤ x)) (n ⊖ 0)
  read-abs-≤ = simp (inside, abs_parts) (omega arith)

  pub read-abs-< : nat_abs x < n ↔ Lt (rd x) (n ⊖ 0) × Lt (rd (neg_ℤ x)) (n ⊖ 0)
  read-abs-< = simp (inside, abs-<-parts) (omega arith)

  pub read_mag : mag x < n ↔ Lt (rd x) (n ⊖ 0) × Le (rd (neg_ℤ x)) (n ⊖ 0)
  read_mag = simp (inside, mag_parts) (omega arith)

  pub read_within : x within n ↔ Le (rd x) (n ⊖ 0) × Le (rd (neg_ℤ x)) (n ⊖ 0)
  read_within = (λ h. read-abs-≤.0 h.size, λ h. record { size = read-abs-≤.1 h })

pub read_non_neg : (x : ℤ) → T (non_neg x) ↔ Le (0 ⊖ 0) (rd x)
read_non_neg x = simp (inside, non_neg_parts) (omega arith)

module _ (w : Width) (x : ℤ) where
  pub read_fits : SFits w x ↔ Lt (rd x) (2 ^ hbits w ⊖ 0) × Le (rd (neg_ℤ x)) (2 ^ hbits w ⊖ 0)
  read_fits = (λ h. (read_mag x _).0 h.sfits, λ h. record { sfits = (read_mag x _).1 h })

  -- what a cast to an unsigned type asks, beside `non_neg`
  pub read_fits_abs : Fits w (nat_abs x) ↔ Lt (rd x) (2 ^ bits w ⊖ 0) × Lt (rd (neg_ℤ x)) (2 ^ bits w ⊖ 0)
  read_fits_abs = (λ h. (read-abs-< x _).0 h.fits, λ h. record { fits = (read-abs-< x _).1 h })

-- a test's outcome, as a branch leaves it
true_is : (t : Bool) → t ≡ true ↔ T t
true_is true = (λ e. tt, λ h. refl)
true_is false = (λ e. subst T (sym e) tt, λ h. absurd h)

false_is : (t : Bool) → t ≡ false ↔ ¬ T t
false_is true = (λ e h. subst T e tt, λ h. absurd (h tt))
false_is false = (λ e h. h, λ h. refl)

module _ (x y : ℤ) where
  lt_z_is : T (lt_z x y) ↔ up x + dn y < up y + dn x
  lt_z_is = (λ t. (<-parts x y).0 (record { lt = t }), λ h. ((<-parts x y).1 h).lt)

  le_z_is : T (le_z x y) ↔ up x + dn y ≤ up y + dn x
  le_z_is = (λ t. (≤-parts x y).0 (record { le = t }), λ h. ((≤-parts x y).1 h).le)

  pub read_lt_true : lt_z x y ≡ true ↔ Lt (rd x) (rd y)
  read_lt_true = simp (inside, true_is, lt_z_is) (omega arith)

  pub read_lt_false : lt_z x y ≡ false ↔ Le (rd y) (rd x)
  read_lt_false = simp (inside, false_is, lt_z_is) (omega arith)

  pub read_le_true : le_z x y ≡ true ↔ Le (rd x) (rd y)
  read_le_true = simp (inside, true_is, le_z_is) (omega arith)

  pub read_le_false : le_z x y ≡ false ↔ Lt (rd y) (rd x)
  read_le_false = simp (inside, false_is, le_z_is) (omega arith)

pub ruleset orders = (read-≤, read-<, read-≡, read_lt_true, read_lt_false, read_le_true, read_le_false, le-⊖, lt-⊖, eq-⊖)

pub ruleset sizes = (read_within, read-abs-≤, read-abs-<, read_mag, read_non_neg, read_fits, read_fits_abs)

pub ruleset statements = (orders, sizes)

-- the order counts: `rd_any` is for what no other equation reads
pub ruleset ints = (statements, rd-+, rd-*, rd_neg, rd_any, neg-⊖, +-⊖, *-⊖)

-- the same, where a product is an unknown unless its first factor is a literal
pub ruleset linear = (statements, rd-+, rd_lit, rd_neg, rd_any, neg-⊖, +-⊖, *-⊖)

-- ---- what `omega` reads of a fact by itself: rules, each of which makes one statement, at the parts of terms as they stand

pub of-≤ : {x y : ℤ} → x ≤ℤ y → up x + dn y ≤ up y + dn x
of-≤ {x} {y} h = (≤-parts x y).0 h

pub of-< : {x y : ℤ} → x <ℤ y → up x + dn y < up y + dn x
of-< {x} {y} h = (<-parts x y).0 h

pub of-≡ : {x y : ℤ} → x ≡ y → up x + dn y ≡ up y + dn x
of-≡ h = omega (arith, ap up h, ap dn h)

pub of_within : {x : ℤ} {n : ℕ} → x within n → up x + dn x ≤ n
of_within {x = pos a} h = omega (arith, h.size)
of_within {x = negsuc a} h = omega (arith, h.size)

-- both bounds in one: x is at most n - 1 if dn x is 0, and at least - n if up x is
weigh : (x : ℤ) (n : ℕ) → mag x < n → n * up x + (n - 1) * dn x ≤ n * (n - 1)
weigh (pos a) n h = let k : a ≤ n - 1 = omega arith in omega (arith, mul-le-mul_left n k)
weigh (negsuc a) n h = omega (arith, mul-le-mul_left (n - 1) h)

pub of_fits : {w : Width} {x : ℤ} → SFits w x → 2 ^ hbits w * up x + (2 ^ hbits w - 1) * dn x ≤ 2 ^ hbits w * (2 ^ hbits w - 1)
of_fits {w} {x} h = weigh x (2 ^ hbits w) h.sfits

pub ruleset arithℤ = (arith, of-≤, of-<, of-≡, of_within, of_fits)
