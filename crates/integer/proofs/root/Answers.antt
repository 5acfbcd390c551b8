-- `integer::root` meets its contract. The loop's invariant: r is not below the root of x and at most 2 ^ 32 - 1, which keeps its square within 64 bits,
-- and the turns so far and those from r on make those of x. The measure is r, which a step from above the root lowers.
use mathlib.Core.Path.{◌≡◌, refl}
use Prim.Native.Nat.{ℕ, ◌+◌, ◌*◌, ◌≤◌, ◌<◌}
use native.Mathlib.Nat.{mul-le-mul, div-lt_iff_lt-mul}
use native.Mathlib.Omega.{arith}
use Rattle.integer.specs.Root.{Root, step}
use Rattle.integer.proofs.RootLaws.{root_only}
use Rattle.integer.proofs.Newton.{square_pos, step_above, step_below, turns_done, turns_more, turns_some, start_near}
use Rattle.integer.proofs.FewTurns.{few_turns}
use Rattle.integer.proofs.root.Goals as goal
use Rattle.integer.proofs.root.Invariants.{Above}

-- a turn: the count grows with the step
turned : (x r count raised : ℕ) → x < r * r → Above x r count → raised ≡ count + 1 → Above x (step x r) raised
turned x r count raised h i e =
    record {
      high = step_above x r (square_pos x r h);
      small = omega (arith, step_below x r h, i.small);
      counted = omega (arith, turns_more x r h, i.counted);
    }

pub returns-then-x-eq0 : goal.returns-then-x-eq0
returns-then-x-eq0 c =
    let e : c.args.x ≡ 0 = omega arith in
    let is : Root 0 0 = record { low = omega arith; high = omega arith } in
    rw e (record { same = root_only is; largest = is; counted = refl })

pub start-r-requires : goal.start-r-requires
start-r-requires c = omega arith

pub loop-r-init : goal.loop-r-init
loop-r-init c =
    let x = c.args.x in
    let some : 0 < x = omega arith in
    let near = start_near x some c.ranges.x.fits in
    rw c.start-r.ensures (record { high = near.0; small = near.1; counted = omega (arith, turns_some x some) })

pub overflow_mul-r : goal.overflow_mul-r
overflow_mul-r c = let small = c.loop-r.invariant.small in record { fits = omega (arith, mul-le-mul small small) }

pub step-r-requires : goal.step-r-requires
step-r-requires c =
    let above : c.args.x < c.loop-r.r * c.loop-r.r = omega arith in
    let some = square_pos _ _ above in
    (some, omega (arith, (div-lt_iff_lt-mul some).1 above, c.loop-r.invariant.small))

pub overflow_add-turns : goal.overflow_add-turns
overflow_add-turns c =
    let x = c.args.x in
    let more = turns_more x c.loop-r.r (omega arith) in
    record { fits = omega (arith, more, c.loop-r.invariant.counted, few_turns.few x c.ranges.x.fits) }

pub loop-r-smaller : goal.loop-r-smaller
loop-r-smaller c = rw c.step-r.ensures (step_below _ _ (omega arith))

pub loop-r-preserved : goal.loop-r-preserved
loop-r-preserved c = rw c.step-r.ensures (turned _ _ _ _ (omega arith) c.loop-r.invariant (omega arith))

pub returns : goal.returns
returns c =
    let i = c.loop-r.invariant in
    let low : c.loop-r.r * c.loop-r.r ≤ c.args.x = omega (arith, c.loop-r-test.false) in
    let is : Root _ _ = record { low = low; high = i.high } in
    record { same = root_only is; largest = is; counted = omega (arith, turns_done _ _ low, i.counted) }
