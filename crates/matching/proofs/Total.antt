-- Over the ends of a healthy bank the matched numbers sum to within 13·E, since w sums to zero there; and of any accepted set each is within 761,874.
use mathlib.Core.Path.{◌≡◌, refl, sym, ◌∙◌}
use mathlib.Core.List.{List}
use Prim.Native.Nat.{ℕ, ◌*◌, ◌<◌}
use native.Mathlib.Omega.{arith}
use lib.Dec.{T}
use lib.IntN.{ℤ, pos, ◌*ℤ◌, ◌-ℤ◌}
use Rattle.integer.specs.Within.{◌within◌}
use Rattle.integer.specs.Sum.{sum}
use Rattle.integer.proofs.Reading.{ints, ◌⇒◌}
use Rattle.integer.proofs.Laws.{within-≤, within_is, cancel_times}
use Rattle.integer.proofs.SumLaws.{sum--, sum_times, sum_within_lem}
use Rattle.integer.proofs.HalfUnit.{nearest_near}
use Rattle.setting.specs.declared.Setting.{Setting}
use Rattle.setting.specs.Values.{end_of, factor_top, factor_under, factor, startable}
use Rattle.setting.proofs.LimitLaws.{startable_is}
use Rattle.matching.specs.declared.Three.{Three}
use Rattle.matching.specs.Matching.{Quotient, even, sum3}
use Rattle.matching.specs.Sets.{System, sys_a, sys_b, sys_c, from_next, seen, phases, filtered, matched_at}
use Rattle.matching.specs.Bank.{ideal_current, NearIdeal, Healthy, InReach, total, TotalBound, MatchedBound}
use Rattle.matching.specs.MatchingInput.{MatchedInput}
use Rattle.matching.proofs.OneEnd.{one_size, one_end}

-- what holds of each phase, as the phase sees the three, holds of the three that a system sees
module _ (R : Three → Three → Type 0) (x w : Three) (h : (l : System) → R (seen l x) (seen l w)) where
  around : (l : System) →
      R (seen l x) (seen l w) × R (from_next (seen l x)) (from_next (seen l w)) × R (from_next (from_next (seen l x))) (from_next (from_next (seen l w)))
  unfolding seen
  around sys_a = (h sys_a, h sys_b, h sys_c)
  around sys_b = (h sys_b, h sys_c, h sys_a)
  around sys_c = (h sys_c, h sys_a, h sys_b)

pub seen_sum : (w : Three) (l : System) → sum3 (seen l w) ≡ sum3 w
unfolding seen
seen_sum w sys_a = refl
seen_sum w sys_b = simp ints (omega arith)
seen_sum w sys_c = simp ints (omega arith)

-- a sum of numbers, each within b of a thousandth of one of which the sum is 0
sum_close : (f w : ℕ → ℤ) (n b : ℕ) → ((z : ℕ) → z < n → (pos 1000 *ℤ f z -ℤ w z) within (1000 * b)) → sum n w ≡ pos 0 →
    sum n f within (b * n)
sum_close f w n b h e =
    let eq : sum n (λ z. pos 1000 *ℤ f z -ℤ w z) ≡ pos 1000 *ℤ sum n f =
    sum-- (λ z. pos 1000 *ℤ f z) w n ∙ rw (sum_times (pos 1000) f n, e) (simp ints (omega arith)) in
    cancel_times {k = 1000} (omega arith) (within-≤ (within_is (sym eq) (sum_within_lem (1000 * b) n (λ z. pos 1000 *ℤ f z -ℤ w z) h)) (omega arith))

module _ (v : Setting) (start : T (startable v)) (xs : List ℤ) (reach : InReach v xs) where
  -- an end in use, as a system sees it
  pub scaled : (z : ℕ) → z < v.ends → (l : System) → MatchedInput (factor v z) (end_of v z).group (seen l (phases xs z))
  scaled z h l =
      let ok = startable_is v start in
      let r = around (λ x w. x.p within 32000) (phases xs z) (phases xs z) (reach z h) l in
      record { factor = ok.factor_within z h; sampled = record { group = ok.limits.group z h; own = r.0; next = r.1; before = r.2 } }

  end_bound : (bank : Healthy v xs) (z : ℕ) → z < v.ends → (l : System) → (pos 1000 *ℤ matched_at v xs z l -ℤ (seen l (bank.w z)).p) within 13000
  unfolding matched_at factor
  end_bound bank z h l =
      let e = end_of v z in
      let f = filtered e in
      let some : 0 < factor_under v = omega (arith, (startable_is v start).power.least) in
      let current : Three → Quotient = λ u. ideal_current (even e.group) f e.group (factor_top e) (factor_under v) u (bank.common z) in
      let near = around (λ x u. NearIdeal (current u) x.p) (phases xs z) (bank.w z) (bank.near z h) l in
      one_end (scaled z h l) f (factor_top e) (factor_under v) (seen l (bank.w z)) (bank.common z) some
      (nearest_near (pos (65536 * factor_top e)) (factor_under v) some)
      (λ t. seen_sum (bank.w z) l ⇒ bank.over_limbs z h t ⇒ simp ints (omega arith))
      (λ t. bank.unfiltered z h t ⇒ simp ints (omega arith))
      near.0
      near.1
      near.2

pub total_bound : TotalBound
unfolding TotalBound total
total_bound v start xs reach bank l =
    within-≤
    (sum_close (λ z. matched_at v xs z l) (λ z. (seen l (bank.w z)).p) v.ends 13 (λ z h. end_bound v start xs reach bank z h l) (bank.over_ends l))
    (omega arith)

pub matched_bound : MatchedBound
unfolding MatchedBound matched_at
matched_bound v start xs reach z h l = within-≤ (one_size (scaled v start xs reach z h l) (filtered (end_of v z))) (omega arith)
