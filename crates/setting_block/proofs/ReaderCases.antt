-- What the reader gives: the refusal of the first row that applies, and past the first three what the verdict on the values says.
use mathlib.Core.Path.{◌≡◌, sym, ap, ◌∙◌}
use mathlib.Core.List.{List}
use Prim.Native.Nat.{ℕ}
use lib.ListN.{take}
use Rattle.std.specs.Prelude.{Err}
use Rattle.lists.specs.Tests.{Each}
use Rattle.refusal.specs.declared.Refusal.{Refusal}
use Rattle.refusal.specs.Refusals.{told_of, Outcome, gives, declines, by_outcome, done, first_refusal}
use Rattle.refusal.proofs.Stops.{Passed, Stops, stops_declines, past_first, first_of_values}
use Rattle.setting.specs.Values.{value_rows}
use Rattle.setting_block.specs.Layout.{setting_at}
use Rattle.setting_block.specs.Calls.{block_fields, read_rows, read_of, Reads}

module _ (s : List ℕ) where
  pub refused : (q : Refusal) → Stops (read_rows s) (told_of q) → Reads s (Err q)
  refused q p = sym (stops_declines p (setting_at s))

  -- past the first three rows, what is told of the values and the zero bytes
  pub judged :
      Each Passed (take 3 (read_rows s)) → (o : Outcome (Unit {0})) → o ≡ first_refusal (value_rows (block_fields s) (setting_at s)) →
      by_outcome o declines (λ _. gives (setting_at s)) ≡ read_of s
  unfolding read_rows
  judged p o a =
      let v = setting_at s in
      ap (λ (o : Outcome (Unit {0})). by_outcome o declines (λ _. gives v)) a
      ∙ sym (first_of_values (tt {0}) v (value_rows (block_fields s) v))
      ∙ sym (past_first 3 (read_rows s) p v)
