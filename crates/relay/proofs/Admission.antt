-- Refusal 12: from the list of tests to each of them, and back.
use mathlib.Core.Path.{◌≡◌}
use mathlib.Core.Bool.{Bool, true}
use Prim.Native.Nat.{ℕ}
use lib.Dec.{T}
use lib.ListN.{get_or}
use Rattle.lists.specs.Tests.{Each}
use Rattle.lists.proofs.TestLaws.{hold_at, hold_of, is_true}
use Rattle.relay.specs.declared.Relay.{Relay}
use Rattle.relay.specs.Record.{admissions, admissible}

pub is_T : {b : Bool} → b ≡ true → T b
is_T e = rw e tt

module _ (r : Relay) where
  -- the test at a place of the list
  pub admitted : admissible r ≡ true → (k : ℕ) → T (get_or (admissions r) k true)
  unfolding admissible
  admitted a = hold_at (admissions r) (is_T a)

  pub admissible_of_lem : Each T (admissions r) → admissible r ≡ true
  unfolding admissible
  admissible_of_lem h = is_true (hold_of h)
