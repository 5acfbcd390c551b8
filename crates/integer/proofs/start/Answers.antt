-- `integer::start` meets its contract: the power of two as the machine shifts it, and the bounds of proofs/Newton.antt for the two steps.
use mathlib.Core.Path.{◌≡◌, ap, ◌∙◌}
use Prim.Native.Nat.{ℕ, ◌*◌, ◌/◌, ◌%◌, ◌^◌}
use native.Mathlib.Omega.{arith}
use lib.Pow.{shl_exact}
use lib.Count.{leading_le}
use Rattle.integer.specs.Root.{digits, step, start}
use Rattle.integer.proofs.Newton.{guess, second, guess_pos, first_fits, second_pos, second_fits}
use Rattle.integer.proofs.start.Goals as goal
use Rattle.integer.proofs.start.Goals.{After-step, After-step-r}

-- the guess, as the machine shifts it
shifted : (x : ℕ) → (1 * 2 ^ (digits x / 2)) % 2 ^ 64 ≡ guess x
shifted x = shl_exact {a = 1} 1 (digits x / 2) 64 (omega arith) (omega arith) ∙ omega arith

pub overflow_sub-half : goal.overflow_sub-half
overflow_sub-half c = leading_le 64 c.args.x

pub overflow_cast-half : goal.overflow_cast-half
overflow_cast-half c = omega arith

pub overflow_shl-half : goal.overflow_shl-half
overflow_shl-half c = omega arith

pub step-requires : goal.step-requires
step-requires c = rw (shifted c.args.x) (guess_pos _ c.requires c.ranges.x.fits, first_fits _ c.requires c.ranges.x.fits)

-- what the first step gave
module _ (c : After-step) where
  abbrev x : ℕ
  x = c.args.x

  once : c.step.result ≡ second x
  once = c.step.ensures ∙ ap (step x) (shifted x)

pub step-r-requires : goal.step-r-requires
step-r-requires c =
    let some = c.requires in
    let fits = c.ranges.x.fits in
    rw (once c) (second_pos _ some fits, omega (arith, second_fits _ some fits))

-- and the second
module _ (c : After-step-r) where
  twice : c.step-r.result ≡ step c.args.x (second c.args.x)
  twice = c.step-r.ensures ∙ ap (step c.args.x) (once c.before)

pub overflow_add-r : goal.overflow_add-r
overflow_add-r c = record { fits = rw (twice c) (omega (arith, second_fits _ c.requires c.ranges.x.fits)) }

pub returns : goal.returns
unfolding start
returns c = c.min.ensures ∙ rw (twice c.before)
