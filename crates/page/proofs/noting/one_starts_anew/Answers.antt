-- `page::noting::one_starts_anew` meets its contract: the first system that starts anew.
use mathlib.Core.Path.{sym, ◌∙◌}
use mathlib.Core.Bool.{true≢false}
use Rattle.measuring.specs.Measuring.{reading_of, readings_of}
use Rattle.page.proofs.noting.one_starts_anew.Goals as goal
use Rattle.page.proofs.noting.one_starts_anew.Goals.{then-starts_anew, else-starts_anew}

pub returns-then-starts_anew-2 : goal.returns-then-starts_anew-2
unfolding readings_of reading_of
returns-then-starts_anew-2 c =
    elim c.if-starts_anew.branch [
      | then-starts_anew w ↦ rw (c.if-starts_anew-2.true, ← c.starts_anew.ensures, w.if-starts_anew.true)
      | else-starts_anew w ↦
          rw (
            c.if-starts_anew-2.true,
            ← c.starts_anew.ensures,
            w.if-starts_anew.false,
            ← w.starts_anew-else-starts_anew.ensures,
            sym w.value-is ∙ c.if-starts_anew-2.true,
          )
    ]

pub returns-else-starts_anew-2 : goal.returns-else-starts_anew-2
unfolding readings_of reading_of
returns-else-starts_anew-2 c =
    elim c.if-starts_anew.branch [
      | then-starts_anew w ↦ absurd (true≢false (sym w.if-starts_anew.true ∙ sym w.value-is ∙ c.if-starts_anew-2.false))
      | else-starts_anew w ↦
          rw (
            ← c.starts_anew.ensures,
            w.if-starts_anew.false,
            ← w.starts_anew-else-starts_anew.ensures,
            sym w.value-is ∙ c.if-starts_anew-2.false,
          )
          c.starts_anew-else-starts_anew-2.ensures
    ]
