-- `matching::matched_at` meets its contract: at an end in use the weights and the samples are read as they are, and each system takes its own phase
-- first; at another the numbers are zero.
use native.Mathlib.Omega.{arith}
use borrow.Author.Tests.{lt-ltb, le-ltb}
use mathlib.Core.Path.{◌≡◌, refl, ap, ◌∙◌}
use Prim.Native.Nat.{ℕ, ◌*◌}
use lib.IntN.{ℤ}
use mir.Syntax.{w16, w32, w64}
use mir.Val.{SFits, to_z, of_z}
use Rattle.integer.specs.Within.{◌within◌}
use Rattle.integer.proofs.Machine.{back, back_ok, back_within}
use Rattle.integer.proofs.Machine as machine
use Rattle.matching.specs.declared.Three.{Three}
use Rattle.matching.specs.Matching.{three}
use Rattle.matching.specs.Sets.{from_next, seen, phases}
use Rattle.matching.specs.Weights.{weighed, weighed_trio}
use Rattle.matching.specs.MatchingInput.{WeighedInput}
use Rattle.matching.proofs.Bits.{kept}
use Rattle.matching.proofs.Weighing.{weighed_next}
use Rattle.matching.proofs.matched_at.Goals as goal

-- ---- the numbers of an end in use, as they are read

-- a sample, widened
wide : {x : ℤ} → x within 32000 → SFits w64 (to_z w16 (of_z w16 x))
wide h = rw (back_within h w16 refl) (machine.fits h w64 refl)

abbrev sample : ℤ → ℤ
sample x = kept (to_z w16 (of_z w16 x))

read_sample : {x : ℤ} → x within 32000 → sample x ≡ x
read_sample h = back (wide h) ∙ back_within h w16 refl

read_weight : {x : ℤ} → x within (1048576 * 6031) → kept x ≡ x
read_weight h = back_within h w64 refl

abbrev read_weights : Three → Three
read_weights w = three (kept w.p) (kept w.n) (kept w.q)

abbrev read_samples : Three → Three
read_samples x = three (sample x.p) (sample x.n) (sample x.q)

module _ {w x : Three} (u : WeighedInput w x) where
  weights_are : read_weights w ≡ w
  weights_are = let k = u.weights in rw (read_weight k.own, read_weight k.next, read_weight k.before)

  samples_are : {a b c : ℤ} → a ≡ to_z w16 (of_z w16 x.p) → b ≡ to_z w16 (of_z w16 x.n) → c ≡ to_z w16 (of_z w16 x.q) → three (kept a) (kept b) (kept c) ≡ x
  samples_are e f g = let s = u.samples in rw (e, f, g, read_sample s.own, read_sample s.next, read_sample s.before)

-- what `matched` requires, and what it gives
module _ {v w x y : Three} (e : v ≡ w) (f : y ≡ x) where
  asked : WeighedInput w x → WeighedInput v y
  asked u = rw (e, f) u

  given : {r : ℤ} → r ≡ weighed v y → r ≡ weighed w x
  given g = g ∙ rw (e, f)

-- ---- the needs

pub matched-requires-2 : goal.matched-requires-2
matched-requires-2 c =
    let at = c.from-at.result in
    let u : WeighedInput (phases c.args.ws at) (phases c.args.set.now at) = rw c.from-at.ensures (c.requires.used (omega arith)) in
    let s = samples_are u c.from.ensures c.from-2.ensures c.from-3.ensures in
    asked (weights_are u) (c.from_next-b.ensures ∙ ap from_next s) (weighed_next u)

pub matched-requires-3 : goal.matched-requires-3
matched-requires-3 c =
    let at = c.from-at.result in
    let u : WeighedInput (phases c.args.ws at) (phases c.args.set.now at) = rw c.from-at.ensures (c.requires.used (omega arith)) in
    let s = samples_are u c.from.ensures c.from-2.ensures c.from-3.ensures in
    asked (weights_are u) (c.from_next-c.ensures ∙ ap from_next (c.from_next-b.ensures ∙ ap from_next s)) (weighed_next (weighed_next u))

pub returns-then-ends-z : goal.returns-then-ends-z
unfolding weighed_trio
returns-then-ends-z c = rw (le-ltb _ _ c.if-ends-z.true)

pub returns : goal.returns
unfolding weighed_trio seen
returns c =
    let at = c.from-at.result in
    let u : WeighedInput (phases c.args.ws at) (phases c.args.set.now at) = rw c.from-at.ensures (c.requires.used (omega arith)) in
    let w = weights_are u ∙ ap (λ (z : ℕ). phases c.args.ws z) c.from-at.ensures in
    let a = samples_are u c.from.ensures c.from-2.ensures c.from-3.ensures ∙ ap (λ (z : ℕ). phases c.args.set.now z) c.from-at.ensures in
    let b = c.from_next-b.ensures ∙ ap from_next a in
    rw (
      back_ok w32 c.matched.result c.matched.type_inv,
      back_ok w32 c.matched-2.result c.matched-2.type_inv,
      back_ok w32 c.matched-3.result c.matched-3.type_inv,
      given w a c.matched.ensures,
      given w b c.matched-2.ensures,
      given w (c.from_next-c.ensures ∙ ap from_next b) c.matched-3.ensures,
      lt-ltb _ _ c.if-ends-z.false,
    )
