-- `matching::matched` meets its contract: each product and sum is within a literal bound, and the quotient fits in 32 bits by the half-unit law.
use mathlib.Core.Path.{◌≡◌, refl, ◌∙◌}
use Prim.Native.Nat.{ℕ, ◌+◌, ◌*◌}
use lib.Dec.{lit≤}
use lib.IntN.{◌+ℤ◌, ◌*ℤ◌}
use mir.Syntax.{w32, w64}
use Rattle.integer.proofs.Laws.{within-≤, within_is}
use Rattle.integer.proofs.Machine.{back, back_ok}
use Rattle.integer.proofs.Machine as machine
use Rattle.matching.specs.declared.Three.{Three}
use Rattle.matching.specs.MatchingInput.{WeighedInput}
use Rattle.matching.specs.Weights.{weighed}
use Rattle.matching.proofs.Bits.{kept, Number, given, fits, read, plus, product}
use Rattle.matching.proofs.Weighing.{weighed_within}
use Rattle.matching.proofs.matched.Goals as goal
use Rattle.matching.proofs.matched.Goals.{After-nearest_away}

-- ---- the three products, and their sums

-- what a product is within
abbrev most : ℕ
most = 1048576 * 6031 * 32000

module _ {w x : Three} (h : WeighedInput w x) where
  own : Number (kept w.p *ℤ kept x.p) (w.p *ℤ x.p) most
  own = product (given h.weights.own refl) (given h.samples.own refl) refl

  next : Number (kept w.n *ℤ kept x.n) (w.n *ℤ x.n) most
  next = product (given h.weights.next refl) (given h.samples.next refl) refl

  before : Number (kept w.q *ℤ kept x.q) (w.q *ℤ x.q) most
  before = product (given h.weights.before refl) (given h.samples.before refl) refl

  two : Number (kept (kept w.p *ℤ kept x.p) +ℤ kept (kept w.n *ℤ kept x.n)) (w.p *ℤ x.p +ℤ w.n *ℤ x.n) (most + most)
  two = plus own next refl

  all : Number (kept (kept (kept w.p *ℤ kept x.p) +ℤ kept (kept w.n *ℤ kept x.n)) +ℤ kept (kept w.q *ℤ kept x.q))
      (w.p *ℤ x.p +ℤ w.n *ℤ x.n +ℤ w.q *ℤ x.q) (most + most + most)
  all = plus two before refl

pub overflow_add-w : goal.overflow_add-w
overflow_add-w c = fits (two c.requires)

pub overflow_mul-w-3 : goal.overflow_mul-w-3
overflow_mul-w-3 c = fits (before c.requires)

pub overflow_add-w-2 : goal.overflow_add-w-2
overflow_add-w-2 c = fits (all c.requires)

-- ---- the quotient

pub nearest_away-requires : goal.nearest_away-requires
nearest_away-requires c =
    let t = all c.requires in
    record { top = within_is (read t) (within-≤ t.size (lit≤ tt)); some = lit≤ tt; few = lit≤ tt }

number_is : (c : After-nearest_away) → kept c.nearest_away.result ≡ weighed c.args.w c.args.x
unfolding weighed
number_is c = rw (back_ok w64 c.nearest_away.result c.nearest_away.type_inv, c.nearest_away.ensures, read (all c.requires))

pub overflow_cast-result : goal.overflow_cast-result
overflow_cast-result c = machine.fits (within_is (number_is c) (weighed_within c.requires)) w32 refl

pub returns : goal.returns
returns c = back (overflow_cast-result c) ∙ number_is c
