-- `amplitude::joined` meets its contract: both products and their sum fit.
use mathlib.Core.Path.{◌≡◌, refl, ◌∙◌}
use lib.IntN.{ℤ, pos, ◌+ℤ◌, ◌*ℤ◌}
use mir.Syntax.{w32, w64}
use mir.Val.{to_z, of_z}
use Rattle.integer.specs.Within.{◌within◌}
use Rattle.integer.proofs.Laws.{within-+, times_within}
use Rattle.integer.proofs.Machine.{back_within}
use Rattle.amplitude.specs.Parts.{joined, PairInput}
use Rattle.amplitude.proofs.joined.Goals as goal

-- what is read back of x
abbrev kept : ℤ → ℤ
kept x = to_z w64 (of_z w64 x)

module _ {a b : ℤ} (h : PairInput a b) where
  join_within : joined a b within 143008989184
  join_within = within-+ (times_within 780 h.low) (times_within 1351 h.high)

  sum_is : kept (kept (pos 780 *ℤ kept a) +ℤ kept (pos 1351 *ℤ kept b)) ≡ joined a b
  sum_is =
      simp (
        back_within h.low w64 refl,
        back_within h.high w64 refl,
        back_within (times_within 780 h.low) w64 refl,
        back_within (times_within 1351 h.high) w64 refl,
        back_within join_within w64 refl,
      )

pub returns : goal.returns
returns c =
    let low : c.from.result ≡ c.args.a = c.from.ensures ∙ back_within c.requires.low w32 refl in
    let high : c.from-2.result ≡ c.args.b = c.from-2.ensures ∙ back_within c.requires.high w32 refl in
    rw (low, high, sum_is c.requires) (record { is = refl; small = join_within c.requires })
