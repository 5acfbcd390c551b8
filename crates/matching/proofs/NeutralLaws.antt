-- Neutral current: where w sums to zero over the limbs, one third of the sum is nothing, and the ideal currents are those of the bank before card 8.
-- Their sum over the phases of an end is a multiple of the sum of w, so it is nothing too, and three half units are left to the samples.
use mathlib.Core.Path.{◌≡◌, sym, ◌∙◌}
use mathlib.Core.Bool.{Bool, true, false}
use mathlib.Core.List.{List}
use Prim.Native.Nat.{ℕ, ◌*◌, ◌<◌}
use native.Mathlib.Nat.{mul-pos}
use native.Mathlib.Omega.{arith}
use lib.Dec.{lit≤}
use lib.IntN.{ℤ, pos, ◌+ℤ◌, ◌*ℤ◌}
use Rattle.integer.specs.Within.{◌within◌}
use Rattle.integer.specs.Nearest.{Near}
use Rattle.integer.proofs.Reading.{ints, linear, ◌⇒◌}
use Rattle.integer.proofs.Laws.{ring, within-≤, within-+, within_is, times_within, cancel_times}
use Rattle.setting.specs.declared.Setting.{Setting}
use Rattle.setting.specs.Values.{end_of, factor_top, factor_under}
use Rattle.setting.proofs.LimitLaws.{startable_is}
use Rattle.matching.specs.declared.Three.{Three}
use Rattle.matching.specs.Matching.{three, Quotient, even, sum3}
use Rattle.matching.specs.Sets.{sys_a, sys_b, sys_c, from_next, seen, phases, filtered}
use Rattle.matching.specs.Bank.{line_current, plus_third, gained, ideal, over_k, plus_common, NearIdeal}
use Rattle.matching.specs.Neutral.{WithoutNeutral, SumsZero, Widened, NeutralBefore}
use Rattle.matching.proofs.Forms.{◌·◌, form_of, linear_line}
use Rattle.matching.proofs.OneEnd.{err}
use Rattle.matching.proofs.Total.{seen_sum}

-- ---- a third of nothing

-- the error of a sample x, of which the ideal is t / u over k = N / B, and c
abbrev err_of : (u N B : ℕ) (t c x : ℤ) → ℤ
err_of u N B t c x = err (1000 * (u * N)) B (pos (u * N) *ℤ c) x t

tripled : (u N B : ℕ) (t s c x : ℤ) → s ≡ pos 0 → err_of (3 * u) N B (pos 3 *ℤ t +ℤ pos u *ℤ s) c x ≡ pos 3 *ℤ err_of u N B t c x
tripled u N B t s c x e = rw e (simp ints (omega arith))

-- the sample x is near the current i over k, with c added
abbrev Close : (N B : ℕ) (c x : ℤ) → Quotient → Type 0
Close N B c x i = NearIdeal (plus_common (over_k N B i) c) x

module _ (i : Quotient) (N B : ℕ) (c x s : ℤ) (e : s ≡ pos 0) where
  third_added : Close N B c x i → Close N B c x (plus_third i s)
  third_added h = within-≤ (within_is (tripled i.under N B i.top s c x e) (times_within 3 h)) (omega arith)

  third_taken : Close N B c x (plus_third i s) → Close N B c x i
  third_taken h = cancel_times {k = 3} (lit≤ tt) (within-≤ (within_is (sym (tripled i.under N B i.top s c x e)) h) (omega arith))

-- the ideal before card 8, and that of it
to_ideal : (e f : Bool) (g N B : ℕ) (w : Three) (c x : ℤ) → sum3 w ≡ pos 0 →
    Close N B c x (line_current e g w) → Close N B c x (ideal e f g w)
unfolding ideal gained
to_ideal true f g N B w c x e h = h
to_ideal false true g N B w c x e h = h
to_ideal false false g N B w c x e h = third_added (line_current false g w) N B c x (sum3 w) e h

from_ideal : (e f : Bool) (g N B : ℕ) (w : Three) (c x : ℤ) → sum3 w ≡ pos 0 →
    Close N B c x (ideal e f g w) → Close N B c x (line_current e g w)
unfolding ideal gained
from_ideal true f g N B w c x e h = h
from_ideal false true g N B w c x e h = h
from_ideal false false g N B w c x e h = third_taken (line_current false g w) N B c x (sum3 w) e h

module _ (v : Setting) (xs : List ℤ) where
  to_wider : WithoutNeutral v xs → SumsZero v xs
  to_wider b =
      record {
        bank =
            record {
              w = b.w;
              over_ends = b.over_ends;
              over_limbs = λ z h t. b.over_limbs z h;
              common = b.common;
              unfiltered = b.unfiltered;
              near =
                  λ z h l.
                  let e = end_of v z in
                  to_ideal (even e.group) (filtered e) e.group (factor_top e) (factor_under v) (seen l (b.w z)) (b.common z) (seen l (phases xs z)).p
                  (seen_sum (b.w z) l ∙ b.over_limbs z h)
                  (b.near z h l);
              others = b.others;
            };
        over_limbs = b.over_limbs;
      }

  from_wider : SumsZero v xs → WithoutNeutral v xs
  from_wider s =
      let b = s.bank in
      record {
        w = b.w;
        over_ends = b.over_ends;
        over_limbs = s.over_limbs;
        common = b.common;
        unfiltered = b.unfiltered;
        near =
            λ z h l.
            let e = end_of v z in
            from_ideal (even e.group) (filtered e) e.group (factor_top e) (factor_under v) (seen l (b.w z)) (b.common z) (seen l (phases xs z)).p
            (seen_sum (b.w z) l ∙ s.over_limbs z h)
            (b.near z h l);
        others = b.others;
      }

pub widened : Widened
unfolding Widened
widened v xs = (to_wider v xs, from_wider v xs)

-- ---- the sum over the phases of an end

-- each limb is seen once from each of the three places
round_sum : (a b c x y z : ℤ) →
    (a *ℤ x +ℤ b *ℤ y +ℤ c *ℤ z) +ℤ (a *ℤ y +ℤ b *ℤ z +ℤ c *ℤ x) +ℤ (a *ℤ z +ℤ b *ℤ x +ℤ c *ℤ y) ≡ (a +ℤ b +ℤ c) *ℤ (x +ℤ y +ℤ z)
round_sum a b c x y z = simp ring (simp linear (omega arith))

rounds : (f w : Three) → f · w +ℤ f · from_next w +ℤ f · from_next (from_next w) ≡ sum3 f *ℤ sum3 w
unfolding ◌·◌
rounds f w = round_sum f.p f.n f.q w.p w.n w.q

-- the tops of the three phases
abbrev lines : Bool → ℕ → Three → Three
lines e g w = three (line_current e g w).top (line_current e g (from_next w)).top (line_current e g (from_next (from_next w))).top

line_sum : (e : Bool) (g : ℕ) (w : Three) → sum3 w ≡ pos 0 → sum3 (lines e g w) ≡ pos 0
line_sum e g w h =
    let t = linear_line e g in
    rw (t.is w, t.is (from_next w), t.is (from_next (from_next w)))
    (rounds (form_of (λ w. (line_current e g w).top)) w ∙ rw h (simp ints (omega arith)))

halves : (M B : ℕ) (a b c x y z d : ℤ) → a +ℤ b +ℤ c ≡ pos 0 → d ≡ pos 0 →
    pos M *ℤ (pos 2 *ℤ (x +ℤ y +ℤ z)) ≡ err M B d x a +ℤ err M B d y b +ℤ err M B d z c
halves M B a b c x y z d h e =
    let gone : pos B *ℤ (a +ℤ b +ℤ c) ≡ pos 0 = rw h (simp ints (omega arith)) in
    e ⇒ gone ⇒ simp ints (omega arith)

-- three samples, each within 1/2 of its ideal, where the ideals sum to nothing
module _ (M B : ℕ) (a x : Three) (d : ℤ) (some : 0 < M) (h : sum3 a ≡ pos 0) (e : d ≡ pos 0) where
  three_halves : Near x.p (pos B *ℤ a.p +ℤ d) M → Near x.n (pos B *ℤ a.n +ℤ d) M → Near x.q (pos B *ℤ a.q +ℤ d) M → sum3 x within 1
  three_halves j k m =
      let all = within_is (halves M B a.p a.n a.q x.p x.n x.q d h e) (within-+ (within-+ j k) m) in
      let twice : (pos 2 *ℤ sum3 x) within 3 = cancel_times {k = M} some (within-≤ all (omega arith)) in
      twice ⇒ simp ints (omega arith)

-- the samples of an end whose w sum to zero, and with no common number
level : (e : Bool) (g N B : ℕ) (w x : Three) (c : ℤ) → 0 < N → sum3 w ≡ pos 0 → c ≡ pos 0 →
    Close N B c x.p (line_current e g w) → Close N B c x.n (line_current e g (from_next w)) →
    Close N B c x.q (line_current e g (from_next (from_next w))) → sum3 x within 1
unfolding line_current
level true g N B w x c l h e =
    three_halves (1000 * (1 * N)) B (lines true g w) x (pos (1 * N) *ℤ c) (omega arith) (line_sum true g w h) (rw e (simp ints (omega arith)))
level false g N B w x c l h e =
    three_halves (1000 * (2340 * N)) B (lines false g w) x (pos (2340 * N) *ℤ c) (omega arith) (line_sum false g w h) (rw e (simp ints (omega arith)))

pub neutral_before : NeutralBefore
unfolding NeutralBefore seen
neutral_before v start xs b z h t =
    let e = end_of v z in
    let u = (startable_is v start).in_use_lem z h in
    let some : 0 < factor_top e = mul-pos {m = 1351} (lit≤ tt) (mul-pos u.voltage u.current) in
    level (even e.group) e.group (factor_top e) (factor_under v) (b.w z) (phases xs z) (b.common z) some (b.over_limbs z h) (b.unfiltered z h t)
    (b.near z h sys_a)
    (b.near z h sys_b)
    (b.near z h sys_c)
