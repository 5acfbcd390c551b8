-- Laws of the four ends' sums and trips at a measured set: that sums stay within, and what becomes of each end.
use mathlib.Core.Path.{◌≡◌, refl, sym, subst}
use mathlib.Core.Bool.{Bool, true, false, not, ◌&&◌, cond, and-false}
use Prim.Native.Nat.{ℕ, zero, suc, ◌≤◌, ◌<◌}
use native.Mathlib.Omega.{arith}
use lib.Dec.{T, ltb, leb, eqb, leb→le, le→leb}
use borrow.Author.Tests.{ltb-true, ne_eqb}
use Rattle.lists.specs.Tests.{hold, none, ◌&◌}
use Rattle.lists.proofs.TestLaws.{hold_at, hold_of, is_true}
use Rattle.systems.specs.declared.Ends.{Ends}
use Rattle.inverse_time.specs.declared.Timer.{Timer}
use Rattle.inverse_time.specs.Curves.{curve_of}
use Rattle.inverse_time.specs.Timers.{multiple, most_sum, timer_after, idle}
use Rattle.inverse_time.proofs.TimerLaws.{sum_stays_within}
use Rattle.overcurrent.specs.Ends.{timer_of, per_end, timed, backup_after, sums_within}

-- ---- the four ends, by themselves and after a measured set

-- no sum above the most
pub sum_within_lem : (b : Ends Timer) → T (hold (sums_within b)) → (z : ℕ) → (timer_of b z).sum ≤ most_sum
sum_within_lem b h zero = leb→le _ _ (hold_at (sums_within b) h 0)
sum_within_lem b h (suc zero) = leb→le _ _ (hold_at (sums_within b) h 1)
sum_within_lem b h (suc (suc zero)) = leb→le _ _ (hold_at (sums_within b) h 2)
sum_within_lem b h (suc (suc (suc zero))) = leb→le _ _ (hold_at (sums_within b) h 3)
sum_within_lem b h (suc (suc (suc (suc z)))) = omega arith

pub within_idle : hold (sums_within (per_end (λ z. idle))) ≡ true
within_idle = refl

module _ (E curve X : ℕ) (A : ℕ → ℕ) (b : Ends Timer) where
  -- what becomes of an end
  abbrev pub after : ℕ → Timer
  after z = cond (timed E curve z) (timer_after (curve_of curve) (multiple X (A z)) (timer_of b z)) (timer_of b z)

  -- where the curve is not 0
  abbrev at : ℕ → Timer
  at z = cond (ltb z E) (timer_after (curve_of curve) (multiple X (A z)) (timer_of b z)) (timer_of b z)

  pub timer_after_lem : (z : ℕ) → z < 4 → timer_of (backup_after E curve X A b) z ≡ after z
  unfolding backup_after
  timer_after_lem zero l = refl
  timer_after_lem (suc zero) l = refl
  timer_after_lem (suc (suc zero)) l = refl
  timer_after_lem (suc (suc (suc zero))) l = refl
  timer_after_lem (suc (suc (suc (suc z)))) l = absurd (omega arith)

  -- at curve 0 none moves
  pub after_off : eqb curve 0 ≡ true → backup_after E curve X A b ≡ b
  unfolding backup_after
  after_off e = rw e

  -- at another curve each end is by itself: in use, or not
  pub by_ends : 1 ≤ curve → {t0 t1 t2 t3 : Timer} → t0 ≡ at 0 → t1 ≡ at 1 → t2 ≡ at 2 → t3 ≡ at 3 →
      record { e0 = t0; e1 = t1; e2 = t2; e3 = t3 } ≡ backup_after E curve X A b
  unfolding backup_after
  by_ends on h0 h1 h2 h3 = rw (ne_eqb curve 0 (λ e. omega arith), h0, h1, h2, h3)

  pub within_after : hold (sums_within b) ≡ true → hold (sums_within (backup_after E curve X A b)) ≡ true
  unfolding backup_after
  within_after h = is_true (hold_of {bs = sums_within (backup_after E curve X A b)} (end 0 & end 1 & end 2 & end 3 & none))
    where
      by : (u : Bool) (s t : Timer) → s.sum ≤ most_sum → t.sum ≤ most_sum → (cond u s t).sum ≤ most_sum
      by true s t k l = k
      by false s t k l = l

      end : (z : ℕ) → T (leb (after z).sum most_sum)
      end z =
          le→leb _ _
          (by (timed E curve z) _ (timer_of b z) (sum_stays_within (curve_of curve) (multiple X (A z)) (timer_of b z)) (sum_within_lem b (subst T (sym h) tt) z))

-- only the amplitudes of the first E ends are looked at
pub after_same : (E curve X : ℕ) (A A' : ℕ → ℕ) (b : Ends Timer) → ((z : ℕ) → z < E → A z ≡ A' z) → backup_after E curve X A b ≡ backup_after E curve X A' b
unfolding backup_after
after_same E curve X A A' b same = cc (end 0, end 1, end 2, end 3)
  where
    end : (z : ℕ) → after E curve X A b z ≡ after E curve X A' b z
    end z = by (ltb z E) refl
      where
        by : (u : Bool) → ltb z E ≡ u →
            cond (not (eqb curve 0) && u) (timer_after (curve_of curve) (multiple X (A z)) (timer_of b z)) (timer_of b z)
            ≡ cond (not (eqb curve 0) && u) (timer_after (curve_of curve) (multiple X (A' z)) (timer_of b z)) (timer_of b z)
        by true e = rw (same z (ltb-true z E e))
        by false e = rw (and-false (not (eqb curve 0)))
