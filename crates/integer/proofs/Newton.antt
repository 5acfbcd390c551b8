-- Newton's iteration for the root (§ Amplitudes 5). A step from any number above 0 is not below the root; from above the root it is smaller, and
-- at least halves the distance to it. So the turns are at most the binary digits of that distance, and the start is no farther than n's own digits say.
use mathlib.Core.Path.{◌≡◌, refl, ap, subst}
use mathlib.Core.Logic.{⊎_elim}
use mathlib.Core.Bool.{Bool, true, false, not}
use Prim.Native.Nat.{ℕ, zero, suc, ◌+◌, ◌*◌, ◌-◌, ◌/◌, ◌^◌, ◌≤◌, ◌<◌}
use native.Mathlib.Nat.{mul-le-mul, div-lt_iff_lt-mul, le-div_iff_mul-le, div-le_self}
use native.Mathlib.Omega.{arith}
use lib.Dec.{T, leb, ltb, leb→le, nleb→lt, ltb→lt, nltb→le}
use lib.Pow.{pow_mono, pow-add}
use lib.Count.{leading_top}
use Rattle.std.proofs.lemmas.Bool.{cases_lt}
use Rattle.integer.specs.Root.{Root, root, digits, step, most, capped, start, reached, turns_from, turns_at, turns}

-- ---- a step

-- twice a product is at most the two squares
squares : (a b : ℕ) → 2 * (a * b) ≤ a * a + b * b
squares a b = by (leb a b) (leb→le a b) (nleb→lt a b)
  where
    apart : (a d : ℕ) → 2 * (a * (a + d)) ≤ a * a + (a + d) * (a + d)
    apart a d = omega arith

    by : (t : Bool) → (T t → a ≤ b) → (T (not t) → b < a) → 2 * (a * b) ≤ a * a + b * b
    by true y f = let e : a + (b - a) ≡ b = omega (arith, y tt) in subst (λ (x : ℕ). 2 * (a * x) ≤ a * a + x * x) e (apart a (b - a))
    by false y f = let e : b + (a - b) ≡ a = omega (arith, f tt) in subst (λ (x : ℕ). 2 * (x * b) ≤ x * x + b * b) e (omega (arith, apart b (a - b)))

-- a step from above 0 is not below the root
pub step_above : (n r : ℕ) → 0 < r → n < (step n r + 1) * (step n r + 1)
step_above n r h =
    let q = n / r in
    let m = step n r + 1 in
    let next : n < (q + 1) * r = (div-lt_iff_lt-mul h).0 (omega arith) in
    let twice : r + q + 1 ≤ 2 * m = omega arith in
    let mine : r ≤ r = omega arith in
    omega (arith, next, mul-le-mul twice mine, squares m r)

-- a number whose square is above another is above 0
pub square_pos : (n r : ℕ) → n < r * r → 0 < r
square_pos n zero h = absurd (omega arith)
square_pos n (suc r) h = omega arith

-- from above the root it is smaller
pub step_below : (n r : ℕ) → n < r * r → step n r < r
step_below n r h = omega (arith, (div-lt_iff_lt-mul (square_pos n r h)).1 h)

-- and at most half as far from it
step_halves : (n r m : ℕ) → Root n m → n < r * r → step n r ≤ (r + m) / 2
step_halves n r m h above =
    let over : m + 1 ≤ r = by (ltb m r) (ltb→lt m r) (nltb→le m r) in
    let wide : m + 1 ≤ m + 1 = omega arith in
    let less : n < (m + 1) * r = omega (arith, h.high, mul-le-mul wide over) in
    omega (arith, (div-lt_iff_lt-mul {k = r} {x = n} {y = m + 1} (omega (arith, over))).1 less)
  where
    by : (b : Bool) → (T b → m < r) → (T (not b) → r ≤ m) → m + 1 ≤ r
    by true y f = omega (arith, y tt)
    by false y f = absurd (omega (arith, mul-le-mul (f tt) (f tt), h.low))

-- ---- the turns

-- r is enough to bound them by
enough : (a b n r : ℕ) (t : Bool) → (T (not t) → n < r * r) → r ≤ a → r ≤ b → turns_from a t n r ≡ turns_from b t n r
unfolding turns_from
enough zero zero n r t h l k = refl
enough zero (suc b) n r true h l k = refl
enough zero (suc b) n r false h l k = absurd (omega (arith, square_pos n r (h tt)))
enough (suc a) zero n r true h l k = refl
enough (suc a) zero n r false h l k = absurd (omega (arith, square_pos n r (h tt)))
enough (suc a) (suc b) n r true h l k = refl
enough (suc a) (suc b) n r false h l k =
    let less = step_below n r (h tt) in
    ap (λ (m : ℕ). 1 + m) (enough a b n (step n r) (reached n (step n r)) (nleb→lt _ _) (omega (arith, less)) (omega (arith, less)))

-- none once the root is reached
pub turns_done : (n r : ℕ) → r * r ≤ n → turns_at n r ≡ 0
unfolding turns_from
turns_done n zero h = refl
turns_done n (suc r) h = by (reached n (suc r)) (nleb→lt _ _)
  where
    by : (t : Bool) → (T (not t) → n < suc r * suc r) → turns_from (suc r) t n (suc r) ≡ 0
    by true f = refl
    by false f = absurd (omega (arith, f tt))

-- else one, and those of the step
pub turns_more : (n r : ℕ) → n < r * r → turns_at n r ≡ 1 + turns_at n (step n r)
unfolding turns_from
turns_more n zero h = absurd (omega arith)
turns_more n (suc r) h = by (reached n (suc r)) (leb→le _ _)
  where
    by : (t : Bool) → (T t → suc r * suc r ≤ n) → turns_from (suc r) t n (suc r) ≡ 1 + turns_at n (step n (suc r))
    by true y = absurd (omega (arith, y tt))
    by false y =
        let s = step n (suc r) in
        ap (λ (m : ℕ). 1 + m) (enough r s n s (reached n s) (nleb→lt _ _) (omega (arith, step_below n (suc r) h)) (omega arith))

pub turns_some : (n : ℕ) → 0 < n → turns n ≡ turns_at n (start n)
turns_some zero h = absurd (omega arith)
turns_some (suc n) h = refl

-- from nearer to the root than 2 ^ j, no more than j
pub few_from : (j bound n r m : ℕ) (t : Bool) → (T (not t) → n < r * r) → Root n m → r < m + 2 ^ j → turns_from bound t n r ≤ j
unfolding turns_from
few_from j zero n r m t h root near = omega arith
few_from j (suc bound) n r m true h root near = omega arith
few_from zero (suc bound) n r m false h root near =
    let low : r ≤ m = omega (arith, near) in absurd (omega (arith, mul-le-mul low low, root.low, h tt))
few_from (suc j) (suc bound) n r m false h root near =
    let s = step n r in
    let closer : s < m + 2 ^ j = omega (arith, step_halves n r m root (h tt), near, pow-add 2 1 j) in
    omega (arith, few_from j bound n s m (reached n s) (nleb→lt _ _) root closer)

-- ---- the start

-- 2 to the power of half of n's digits, and the step from it
abbrev pub guess : ℕ → ℕ
guess n = 2 ^ (digits n / 2)

abbrev pub second : ℕ → ℕ
second n = step n (guess n)

-- of a number above 0: n has a digit more than the place of its highest one, and so lies between the guess and twice its square
module _ (n : ℕ) (some : 0 < n) (fits : n < 2 ^ 64) where
  pub guess_small : guess n ≤ 2 ^ 32
  guess_small = pow_mono {i = digits n / 2} {j = 32} (omega arith)

  pub guess_pos : 1 ≤ guess n
  guess_pos = pow_mono {i = 0} {j = digits n / 2} (omega arith)

  guess-≤ : guess n ≤ n
  guess-≤ =
      let t = leading_top 64 n some fits in
      let e : digits n ≡ suc t.0 = omega (arith, t.1) in
      omega (arith, pow_mono {i = digits n / 2} {j = t.0} (omega (arith, e)), t.2)

  guess_squared : n < 2 * (guess n * guess n)
  guess_squared =
      let t = leading_top 64 n some fits in
      let k = digits n / 2 in
      let e : digits n ≡ suc t.0 = omega (arith, t.1) in
      let long : suc t.0 ≤ 1 + (k + k) = omega (arith, e) in
      omega (arith, t.3, pow_mono long, pow-add 2 1 (k + k), pow-add 2 k k)

  -- the first step
  quotient_pos : 1 ≤ n / guess n
  quotient_pos = (le-div_iff_mul-le guess_pos).1 (omega (arith, guess-≤))

  pub first_fits : guess n + n / guess n < 2 ^ 64
  first_fits =
      let q : n / guess n < 2 * guess n = (div-lt_iff_lt-mul guess_pos).1 (omega (arith, guess_squared)) in
      omega (arith, q, guess_small)

  pub second_pos : 0 < second n
  second_pos = omega (arith, guess_pos, quotient_pos)

  -- and the second
  quotient_small : n / second n < 4 * guess n
  quotient_small =
      let half : guess n ≤ 2 * second n = omega (arith, quotient_pos) in
      let same : guess n ≤ guess n = omega arith in
      (div-lt_iff_lt-mul second_pos).1 (omega (arith, guess_squared, mul-le-mul same half))

  second-≤ : second n ≤ n
  second-≤ = omega (arith, guess-≤, div-le_self n (guess n))

  pub second_fits : second n + n / second n < 2 ^ 35
  second_fits =
      let q : n / guess n < 2 * guess n = (div-lt_iff_lt-mul guess_pos).1 (omega (arith, guess_squared)) in
      omega (arith, q, quotient_small, guess_small)

  third-≤ : step n (second n) ≤ n
  third-≤ = omega (arith, second-≤, div-le_self n (second n))

-- the cap is no loss: the square of one more than it is past every n
capped_above : (n r : ℕ) → n < 2 ^ 64 → n < (r + 1) * (r + 1) → (n < (capped r + 1) * (capped r + 1)) × (capped r ≤ most) × (capped r ≤ r)
capped_above n r fits above =
    ⊎_elim (λ (over : most < r). let e : capped r ≡ most = omega arith in rw e (omega arith, omega arith, omega arith))
    (λ (low : r ≤ most). let e : capped r ≡ r = omega arith in rw e (above, low, omega arith))
    (cases_lt most r)

pub start_near : (n : ℕ) → 0 < n → n < 2 ^ 64 → (n < (start n + 1) * (start n + 1)) × (start n ≤ most) × (start n ≤ n + 1)
unfolding start
start_near n some fits =
    let r = step n (second n) + 1 in
    let over = step_above n (second n) (second_pos n some fits) in
    let c = capped_above n r fits (omega (arith, over)) in
    (c.0, c.1, omega (arith, c.2, third-≤ n some fits))
