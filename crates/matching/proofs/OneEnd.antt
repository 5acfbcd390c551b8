-- One end of a bank: where each sample is within 1/2 of its ideal, 1000·v is within 13,000 of w; and any v is within 761,874.
-- The chain of three roundings (v of K·m, K of k, m of the ideal) uses only the half-unit law and the rows of Rows.antt.
use mathlib.Core.Path.{◌≡◌, refl, sym, ◌∙◌}
use mathlib.Core.Bool.{Bool, true, false}
use Prim.Native.Nat.{ℕ, ◌*◌, ◌≤◌, ◌<◌}
use native.Mathlib.Omega.{arith}
use lib.IntN.{ℤ, pos, ◌+ℤ◌, ◌*ℤ◌, ◌-ℤ◌}
use Rattle.integer.specs.Within.{◌within◌}
use Rattle.integer.specs.Nearest.{Near}
use Rattle.integer.proofs.Reading.{ints, linear, ◌⇒◌}
use Rattle.integer.proofs.Laws.{ring, literals, within-≤, within-+, within-*, within_is, times_within, cancel_times}
use Rattle.matching.specs.declared.Three.{Three}
use Rattle.matching.specs.Matching.{three, even, sum3, operated, matched}
use Rattle.matching.specs.Sets.{from_next}
use Rattle.matching.specs.Bank.{line_current, gained, ideal, ideal_current, NearIdeal}
use Rattle.matching.specs.Weights.{own, next, parts}
use Rattle.matching.specs.MatchingInput.{MatchedInput}
use Rattle.matching.proofs.Forms.{◌·◌, Linear, linear_p, linear_n, linear_q, linear_form, linear_parts, linear_ideal, ideal_under}
use Rattle.matching.proofs.Rows.{matching, currents, currents_under, spread, chain, GroupRow, group_row}
use Rattle.matching.proofs.Parts.{matched_near, small_form, parts_within}

-- ---- from three roundings to the number: v is K m / (65536·4053), K is 65536 N / B, and m is 4053 B w / (1000 N), each with an error

-- twice the error of each
abbrev err_v : (K m v : ℤ) → ℤ
err_v K m v = pos 2 *ℤ (pos (65536 * 4053) *ℤ v -ℤ K *ℤ m)

abbrev err_k : (N B : ℕ) (K : ℤ) → ℤ
err_k N B K = pos 2 *ℤ (pos B *ℤ K -ℤ pos (65536 * N))

abbrev err_m : (N B : ℕ) (m w : ℤ) → ℤ
err_m N B m w = pos 2 *ℤ (pos (1000 * N) *ℤ m -ℤ pos (4053 * B) *ℤ w)

errors : (N B : ℕ) (K m v w : ℤ) →
    pos (131072 * (4053 * B)) *ℤ (pos 1000 *ℤ v -ℤ w)
    ≡ pos (1000 * B) *ℤ err_v K m v +ℤ pos 1000 *ℤ (m *ℤ err_k N B K) +ℤ pos 65536 *ℤ err_m N B m w
errors N B K m v w = simp ints (omega arith)

-- k is at most a little above 16
k_bound : (N B : ℕ) (K : ℤ) → K within 1048576 → err_k N B K within B → 131072 * N ≤ 2097153 * B
k_bound N B K h e = e ⇒ times_within B h ⇒ simp ints (omega arith)

chained : (N B : ℕ) (K m v w : ℤ) → 0 < B → K within 1048576 → m within (6031 * 32000) →
    err_v K m v within (65536 * 4053) → err_k N B K within B → err_m N B m w within (6031 * (1000 * N)) → (pos 1000 *ℤ v -ℤ w) within 13000
chained N B K m v w hB hK hm eV eK eM =
    let hN = k_bound N B K hK eK in
    cancel_times {k = 131072 * (4053 * B)} (omega arith)
    (within-≤
    (within_is (errors N B K m v w)
    (within-+ (within-+ (times_within (1000 * B) eV) (times_within 1000 (within-* hm eK))) (times_within 65536 eM)))
    (omega arith))

-- any v, by the size of m
sized : (K m v : ℤ) → K within 1048576 → m within (6031 * 32000) → err_v K m v within (65536 * 4053) → v within 761874
sized K m v hK hm eV =
    let eq : pos (131072 * 4053) *ℤ v ≡ err_v K m v +ℤ pos 2 *ℤ (K *ℤ m) = simp ints (omega arith) in
    cancel_times {k = 131072 * 4053} (omega arith) (within-≤ (within_is eq (within-+ eV (times_within 2 (within-* hK hm)))) (omega arith))

-- ---- from the samples to m

-- what is divided by k comes first, and then the common number
top_is : (e f : Bool) (g N B : ℕ) (u : Three) (c : ℤ) →
    (ideal_current e f g N B u c).top ≡ pos B *ℤ (ideal e f g u).top +ℤ pos ((ideal e f g u).under * N) *ℤ c
unfolding line_current gained ideal
top_is true f g N B u c = simp ints (omega arith)
top_is false true g N B u c = simp ints (omega arith)
top_is false false g N B u c = simp ints (omega arith)

under_is : (e f : Bool) (g N B : ℕ) (u : Three) (c : ℤ) → (ideal_current e f g N B u c).under ≡ (ideal e f g u).under * N
unfolding line_current gained ideal
under_is true f g N B u c = omega arith
under_is false true g N B u c = omega arith
under_is false false g N B u c = omega arith

-- twice the error of a sample s, whose ideal is (B a + y) / M
abbrev pub err : (M B : ℕ) (y s a : ℤ) → ℤ
err M B y s a = pos 2 *ℤ (pos M *ℤ s -ℤ (pos B *ℤ a +ℤ y))

abbrev errs : (M B : ℕ) (y : ℤ) (x a : Three) → Three
errs M B y x a = three (err M B y x.p a.p) (err M B y x.n a.n) (err M B y x.q a.q)

gathered : (f x a : Three) (M B : ℕ) (y : ℤ) → f · errs M B y x a ≡ pos 2 *ℤ (pos M *ℤ (f · x) -ℤ (pos B *ℤ (f · a) +ℤ sum3 f *ℤ y))
unfolding ◌·◌
gathered f x a M B y = simp ring (simp literals (simp linear (omega arith)))

linear_chain : (g : ℕ) (f : Bool) → Linear (chain g f)
linear_chain g f =
    let t = currents g f in
    linear_form (matching g f)
    (linear_form t linear_p linear_n linear_q)
    (linear_form t linear_n linear_q linear_p)
    (linear_form t linear_q linear_p linear_n)

regroup : (D e x y z : ℤ) → (D +ℤ e) *ℤ x +ℤ e *ℤ y +ℤ e *ℤ z ≡ D *ℤ x +ℤ e *ℤ (x +ℤ y +ℤ z)
regroup D e x y z = simp ints (omega arith)

-- the sum of w is gone: with the filter it is zero, and without it the matching passes it to the limbs where it flows
sum_gone : {g : ℕ} {f : Bool} → GroupRow g f → (w : Three) → (f ≡ true → sum3 w ≡ pos 0) → chain g f next *ℤ sum3 w ≡ pos 0
sum_gone {g} {f = true} r w h = rw (h refl) (simp ints (omega arith))
sum_gone {g} {f = false} r w h = rw (r.passed refl) (simp ints (omega arith))

-- the matching undoes the bank's operation: w of the system's own limb is left
undone : {g : ℕ} {f : Bool} → GroupRow g f → (w : Three) → (f ≡ true → sum3 w ≡ pos 0) → chain g f w ≡ pos (currents_under g f * 4053) *ℤ w.p
unfolding ◌·◌
undone {g} {f} r w h =
    (linear_chain g f).is w
    ∙ rw (r.alone, r.level, regroup (pos (currents_under g f * 4053)) (chain g f next) w.p w.n w.q, sum_gone r w h) (simp ints (omega arith))

-- the common number is gone, with the filter since the matching takes it out
common_gone : {g : ℕ} {f : Bool} → GroupRow g f → (k : ℕ) (c : ℤ) → (f ≡ false → c ≡ pos 0) → sum3 (matching g f) *ℤ (pos k *ℤ c) ≡ pos 0
common_gone {g} {f = true} r k c h = rw (r.flat refl) (simp ints (omega arith))
common_gone {g} {f = false} r k c h = rw (h refl) (simp ints (omega arith))

-- the errors of the samples, gathered, where the common number is gone
reduced : (β N B : ℕ) (m S W y : ℤ) → S ≡ pos (β * 4053) *ℤ W → y ≡ pos 0 →
    pos 2 *ℤ (pos (1000 * (β * N)) *ℤ m -ℤ (pos B *ℤ S +ℤ y)) ≡ pos β *ℤ err_m N B m W
reduced β N B m S W y h k = rw (h, k) (simp ints (omega arith))

-- ---- the bounds

module _ {K : ℤ} {g : ℕ} {x : Three} (s : MatchedInput K g x) (f : Bool) where
  -- what K/65,536 multiplies
  abbrev m : ℤ
  m = parts (operated (even g) f g x)

  v_near : err_v K m (matched K g f x) within (65536 * 4053)
  v_near = matched_near K g f x

  pub one_size : matched K g f x within 761874
  one_size = sized K m (matched K g f x) s.factor (parts_within s.sampled f) v_near

  -- a healthy end: N / B is its k, w the currents of its limbs, c its common number
  module _ (N B : ℕ) (w : Three) (c : ℤ) where
    -- a sample that is near its ideal, by the form
    near_form : (u : Three) (y : ℤ) → NearIdeal (ideal_current (even g) f g N B u c) y →
        err (1000 * (currents_under g f * N)) B (pos (currents_under g f * N) *ℤ c) y (currents g f · u) within (1000 * (currents_under g f * N))
    near_form u y h =
        (rw (top_is (even g) f g N B u c, under_is (even g) f g N B u c, (linear_ideal (even g) f g).is u, ideal_under (even g) f g u own) at h)
        ⇒ simp ints (omega arith)

    pub one_end : 0 < B → Near K (pos (65536 * N)) B → (f ≡ true → sum3 w ≡ pos 0) → (f ≡ false → c ≡ pos 0) →
        let Close : Three → ℤ → Type 0 = λ u y. NearIdeal (ideal_current (even g) f g N B u c) y in
        Close w x.p → Close (from_next w) x.n → Close (from_next (from_next w)) x.q →
        (pos 1000 *ℤ matched K g f x -ℤ w.p) within 13000
    one_end hB eK hw hc p n q =
        let l = s.sampled.group in
        let r = group_row g f l in
        let F = matching g f in
        let β = currents_under g f in
        let a = spread (currents g f) w in
        let y = pos (β * N) *ℤ c in
        let eM : F · errs (1000 * (β * N)) B y x a ≡ pos β *ℤ err_m N B m w.p =
        gathered F x a (1000 * (β * N)) B y
        ∙ rw ((linear_parts (even g) f g l).is x) (reduced β N B (F · x) (F · a) w.p _ (undone r w hw) (common_gone r (β * N) c hc)) in
        chained N B K m (matched K g f x) w.p hB s.factor (parts_within s.sampled f) v_near eK
        (cancel_times r.least
        (within-≤
        (within_is (sym eM) (small_form f l (near_form w x.p p) (near_form (from_next w) x.n n) (near_form (from_next (from_next w)) x.q q)))
        (omega arith)))
