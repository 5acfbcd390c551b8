-- `overcurrent::watching::measured` meets its contract: at curve 0 nothing moves; else the amplitudes of the ends in use are those of the window, and no
-- others are looked at.
use borrow.Author.Tests.{eq-eqb, ne_eqb}
use mathlib.Core.Path.{◌≡◌, sym, ◌∙◌, subst}
use mathlib.Core.Bool.{Bool, not}
use mathlib.Core.List.{List}
use Prim.Native.Nat.{ℕ, ◌*◌, ◌<◌}
use native.Mathlib.Omega.{arith}
use lib.Dec.{T, eqb}
use lib.IntN.{ℤ}
use lib.ListN.{get_or}
use Rattle.setting.specs.declared.Setting.{Setting}
use Rattle.setting.specs.Limits.{TimersOn}
use Rattle.matching.specs.Sets.{sys_a, sys_b, sys_c}
use Rattle.amplitude.specs.Amplitude.{amplitude}
use Rattle.measuring.specs.declared.WithEnds.{WithEnds}
use Rattle.measuring.specs.Window.{series}
use Rattle.measuring.specs.Ends.{MeasuresEnds}
use Rattle.overcurrent.specs.Ends.{largest_in}
use Rattle.overcurrent.specs.Watching.{largest, backup_by}
use Rattle.overcurrent.proofs.BackupLaws.{after_off, after_same}
use Rattle.overcurrent.proofs.watching.measured.Goals as goal

-- ---- the curve is 0

pub returns-then-not-on : goal.returns-then-not-on
unfolding backup_by
returns-then-not-on c =
    record { readings = c.measure_ends-m.ensures.readings; backup = sym (after_off _ _ _ _ _ (eq-eqb _ _ c.if-not-on.true)) }

-- ---- it is not

-- the amplitudes of the ends in use, so that A is
module _ {v : Setting} {win : List ℤ} {asked : Bool} {r : WithEnds} (m : MeasuresEnds v win asked r) (t : T asked) where
  largest_at : (z : ℕ) → z < v.ends → largest_in r.amplitudes z ≡ largest win z
  unfolding largest
  largest_at z l = rw (first, m.amplitudes t z l sys_b, m.amplitudes t z l sys_c)
    where
      first : get_or r.amplitudes (3 * z) 0 ≡ amplitude 1 (series win z sys_a)
      first = subst (λ (i : ℕ). get_or r.amplitudes i 0 ≡ amplitude 1 (series win z sys_a)) (omega arith) (m.amplitudes t z l sys_a)

pub backup_after-requires : goal.backup_after-requires
backup_after-requires c =
    let on : TimersOn c.args.v.overcurrent = c.requires.on (ne_eqb _ _ c.if-not-on.false) in
    record { on = on.some; pickup = omega (arith, on.pickup); small = c.measure_ends-m.ensures.small; sums = c.requires.sums }

pub returns : goal.returns
unfolding backup_by
returns c =
    let curve = c.args.v.overcurrent.curve in
    let asked : T (not (eqb curve 0)) = rw (ne_eqb curve 0 c.if-not-on.false) tt in
    record {
      readings = c.measure_ends-m.ensures.readings;
      backup = c.backup_after.ensures ∙ after_same _ _ _ _ _ _ (largest_at c.measure_ends-m.ensures asked);
    }
