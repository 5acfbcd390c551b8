-- Values with slopes that fall, are level and rise, alone and beside other faults: what refuses them in a block and at a start (§ The order of
-- refusals 2 and 5), worked out by hand.
use Rattle.std.specs.Prelude.{◌≡◌, refl, List, [], ◌∷◌, map, ℕ, Some}
use Rattle.integer.specs.Nearest.{nearest, floor}
use Rattle.lists.specs.Lists.{up_to}
use Rattle.refusal.specs.Refusals.{Told, alone, Row, declines, by_outcome, done, first_refusal}
use Rattle.setting.specs.declared.Setting.{Setting}
use Rattle.setting.specs.Values.{factor, factor_high, factors_low, value_rows, store_rows, start_rows}
use Rattle.setting.specs.Worked.{rated, blank, two_ends, plain, flagged, sloped, fallen}

-- what the first row that applies tells, 0 where none does
abbrev pub told_by : List Row → Told
told_by rs = by_outcome (first_refusal rs) (λ told. told) (λ done. alone 0)

-- what a block and a start tell of values
abbrev pub told_of_both : Setting → List Told
told_of_both v = told_by (store_rows v) ∷ told_by (start_rows v) ∷ []

abbrev pub field_at : ℕ → Told
field_at x = record { number = 5; offset = Some x }

-- a k above 16, and both below 0.5 (§ Numbers to meet)
abbrev pub too_high : Setting
too_high = two_ends 1351 (rated 780 16001) (rated 780 1000)

abbrev pub too_low : Setting
too_low = two_ends 1351 (rated 780 499) (rated 780 499)

abbrev pub verdicts : List (List Told × List Told)
verdicts =
    -- m2 one below m1, at it, one above it; far below it
    (told_of_both (sloped 71 70 plain), alone 0 ∷ alone 17 ∷ [])
    ∷ (told_of_both (sloped 70 70 plain), alone 0 ∷ alone 0 ∷ [])
    ∷ (told_of_both (sloped 70 71 plain), alone 0 ∷ alone 0 ∷ [])
    ∷ (told_of_both (sloped 150 10 plain), alone 0 ∷ alone 17 ∷ [])
    ∷ (told_of_both fallen, alone 0 ∷ alone 17 ∷ [])
    -- below it, and outside the slopes' range
    ∷ (told_of_both (sloped 151 150 plain), field_at 64 ∷ field_at 64 ∷ [])
    ∷ (told_of_both (sloped 10 9 plain), field_at 66 ∷ field_at 66 ∷ [])
    -- beside no ends, flags of 8, S of 0
    ∷ (told_of_both (sloped 71 70 blank), alone 4 ∷ alone 4 ∷ [])
    ∷ (told_of_both (sloped 71 70 (flagged 8)), field_at 5 ∷ field_at 5 ∷ [])
    ∷ (told_of_both (sloped 71 70 (two_ends 0 (rated 780 1000) (rated 780 1000))), field_at 8 ∷ field_at 8 ∷ [])
    -- beside factors outside their limits, and these alone
    ∷ (told_of_both (sloped 71 70 too_high), alone 6 ∷ alone 17 ∷ [])
    ∷ (told_of_both (sloped 71 70 too_low), alone 7 ∷ alone 17 ∷ [])
    ∷ (told_of_both too_high, alone 6 ∷ alone 6 ∷ [])
    ∷ (told_of_both too_low, alone 7 ∷ alone 7 ∷ [])
    ∷ []

pub verdicts_met : map (λ w. w.0) verdicts ≡ map (λ w. w.1) verdicts
unfolding plain flagged fallen factor factor_high factors_low value_rows start_rows nearest floor up_to
verdicts_met = refl

-- so that a block may hold m1 70 and m2 30, and a start declines them with 17
pub fallen_held : first_refusal (store_rows fallen) ≡ done
unfolding plain fallen factor factor_high factors_low value_rows nearest floor up_to
fallen_held = refl

pub fallen_declined : first_refusal (start_rows fallen) ≡ declines (alone 17)
unfolding plain fallen start_rows
fallen_declined = refl
