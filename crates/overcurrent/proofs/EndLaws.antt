-- The four ends by their places, for the theorems over lists of calls.
use mathlib.Core.Path.{◌≡◌, refl}
use mathlib.Core.Bool.{Bool, true, false, not, cond, and-false}
use Prim.Native.Nat.{ℕ, zero, suc, ◌≤◌, ◌<◌}
use native.Mathlib.Omega.{arith}
use lib.Dec.{T, ltb, eqb}
use borrow.Author.Tests.{le-ltb, ltb-true, ltb-false}
use Rattle.inverse_time.specs.declared.Timer.{Timer}
use Rattle.systems.specs.declared.Ends.{Ends}
use Rattle.inverse_time.specs.Curves.{curve_of}
use Rattle.inverse_time.specs.Timers.{multiple, timer_after, idle}
use Rattle.overcurrent.specs.Ends.{timer_of, per_end, timed, backup_after}
use Rattle.inverse_time.proofs.TimerLaws.{idle_stays}
use Rattle.overcurrent.proofs.BackupLaws.{after, timer_after_lem}

pub timer_idle : (z : ℕ) → timer_of (per_end (λ z. idle)) z ≡ idle
timer_idle zero = refl
timer_idle (suc zero) = refl
timer_idle (suc (suc zero)) = refl
timer_idle (suc (suc (suc zero))) = refl
timer_idle (suc (suc (suc (suc z)))) = refl

-- there is no end past the fourth
none_past : (b : Ends Timer) (z : ℕ) → 4 ≤ z → timer_of b z ≡ idle
none_past b (suc (suc (suc (suc z)))) l = refl
none_past b zero l = absurd (omega arith)
none_past b (suc zero) l = absurd (omega arith)
none_past b (suc (suc zero)) l = absurd (omega arith)
none_past b (suc (suc (suc zero))) l = absurd (omega arith)

module _ (E curve X : ℕ) (A : ℕ → ℕ) (b : Ends Timer) where
  -- what a measured set makes of any end
  pub timer_at_lem : E ≤ 4 → (z : ℕ) → timer_of (backup_after E curve X A b) z ≡ after E curve X A b z
  timer_at_lem four z = by (ltb z 4) refl
    where
      by : (u : Bool) → ltb z 4 ≡ u → timer_of (backup_after E curve X A b) z ≡ after E curve X A b z
      by true e = timer_after_lem E curve X A b z (ltb-true z 4 e)
      by false e =
          let past = ltb-false z 4 e in
          rw (none_past (backup_after E curve X A b) z past, none_past b z past, le-ltb z E (omega arith), and-false (not (eqb curve 0)))

-- cleared timers of which none is at 11 or more stay cleared
pub idle_kept : (E curve X : ℕ) (A : ℕ → ℕ) → ((z : ℕ) → T (timed E curve z) → multiple X (A z) < 11) → backup_after E curve X A (per_end (λ z. idle)) ≡ per_end (λ z. idle)
unfolding backup_after
idle_kept E curve X A low = cc (end 0, end 1, end 2, end 3)
  where
    end : (z : ℕ) → cond (timed E curve z) (timer_after (curve_of curve) (multiple X (A z)) idle) idle ≡ idle
    end z = by (timed E curve z) (low z)
      where
        by : (u : Bool) → (T u → multiple X (A z) < 11) → cond u (timer_after (curve_of curve) (multiple X (A z)) idle) idle ≡ idle
        by true h = idle_stays (curve_of curve) (multiple X (A z)) (h tt)
        by false h = refl
