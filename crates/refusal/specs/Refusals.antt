-- The refusals (§ What the relay declines).
use Rattle.std.specs.Prelude.{Bool, not, cond, List, [], ◌∷◌, ℕ, Option, None, Some, Result, Ok, Err}
use Rattle.lists.specs.Tests.{each}
use Rattle.refusal.specs.declared.Refusal.{Refusal}
use Rattle.refusal.specs.declared.Refusal.TheVariants.{Length, Check, Mark, Ends, Field, FactorHigh, FactorsLow, Sets, Spare, Reach, Unused, Record, Room, Count, Offset, Fixed, SlopesFall}

-- What a refusal tells, the table's first column: its number, and with 5 an offset.
pub record Told : Type 0 where
  pub number : ℕ
  pub offset : Option ℕ

abbrev pub alone : ℕ → Told
alone n = record { number = n; offset = None }

abbrev pub told_of : Refusal → Told
told_of Length = alone 1
told_of Check = alone 2
told_of Mark = alone 3
told_of Ends = alone 4
told_of (Field offset) = record { number = 5; offset = Some offset }
told_of FactorHigh = alone 6
told_of FactorsLow = alone 7
told_of Sets = alone 8
told_of Spare = alone 9
told_of Reach = alone 10
told_of Unused = alone 11
told_of Record = alone 12
told_of Room = alone 13
told_of Count = alone 14
told_of Offset = alone 15
told_of Fixed = alone 16
told_of SlopesFall = alone 17

-- the number, without the offset
abbrev pub number_of : Refusal → ℕ
number_of r = (told_of r).number

-- ---- what a call gives

-- What a call gives, in the table's terms: its values, or what a refusal tells.
pub data Outcome (A : Type 0) : Type 0 where
  gives : A → Outcome A
  declines : Told → Outcome A

-- a call's answer in the table's terms
abbrev pub outcome_of : {A : Type 0} → Result A Refusal → Outcome A
outcome_of (Ok a) = gives a
outcome_of (Err r) = declines (told_of r)

-- What follows from an outcome: from what its refusal tells, or from its values. So a call leaves one thing at a refusal, which may depend on
-- which one it is, and another where it accepts.
abbrev pub by_outcome : {A B : Type 0} → Outcome A → (refused : Told → B) (given : A → B) → B
by_outcome (gives a) refused given = given a
by_outcome (declines told) refused given = refused told

-- A row of the table: what is returned, and when.
infix 4 ◌when◌ ◌at◌when◌
pub record Row : Type 0 where
  pub told : Told
  pub applies : Bool

abbrev pub ◌when◌ : ℕ → Bool → Row
n when b = record { told = alone n; applies = b }

abbrev pub ◌at◌when◌ : ℕ → Option ℕ → Bool → Row
n at offset when b = record { told = record { number = n; offset = offset }; applies = b }

-- the first row that applies; the values where none does
abbrev pub first_of : {A : Type 0} → List Row → A → Outcome A
first_of [] a = gives a
first_of (r ∷ rs) a = cond r.applies (declines r.told) (first_of rs a)

-- no row applies
abbrev pub none_applies : List Row → Bool
none_applies rs = each (λ r. not r.applies) rs

-- ---- a call that gives no values: done, or the first row that applies

abbrev pub done : Outcome (Unit {0})
done = gives (tt {0})

abbrev pub first_refusal : List Row → Outcome (Unit {0})
first_refusal rs = first_of rs (tt {0})
