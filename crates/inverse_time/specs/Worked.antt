-- Numbers worked out by hand (§ Backup overcurrent): what the definitions give, and what is to be met.
use Rattle.std.specs.Prelude.{◌≡◌, refl, true, false, List, [], ◌∷◌, map, ℕ, replicate}
use Rattle.inverse_time.specs.declared.Timer.{Timer}
use Rattle.inverse_time.specs.declared.curves.Curve.TheVariants.{VeryInverse, ExtremelyInverse}
use Rattle.inverse_time.specs.Curves.{curve_of, entry}
use Rattle.inverse_time.specs.Timers.{multiple, growth, sum_after, timer_after, idle}
use Rattle.inverse_time.specs.Rows.{after_sets}

numbers : List (ℕ × ℕ)
numbers =
    -- entries, by byte 76: 81,000 / 1, / 10, / 90, / 190, and 4,800,000 / 21, / 300, / 9,900, / 39,900, rounded up
    (entry (curve_of 1) 11, 81000)
    ∷ (entry (curve_of 1) 20, 8100)
    ∷ (entry (curve_of 1) 100, 900)
    ∷ (entry (curve_of 1) 200, 427)
    ∷ (entry (curve_of 2) 11, 228572)
    ∷ (entry (curve_of 2) 20, 16000)
    ∷ (entry (curve_of 2) 100, 485)
    ∷ (entry (curve_of 2) 200, 121)
    -- j at pick-up 200, up to 200
    ∷ (multiple 200 219, 10)
    ∷ (multiple 200 220, 11)
    ∷ (multiple 200 4000, 200)
    ∷ (multiple 200 5000, 200)
    -- what a set at j = 11 adds
    ∷ (growth VeryInverse 11, 12345)
    ∷ (growth ExtremelyInverse 11, 4374)
    ∷ []

numbers_met : map (λ r. r.0) numbers ≡ map (λ r. r.1) numbers
unfolding numbers entry multiple growth
numbers_met = refl

timers : List (Timer × Timer)
timers =
    -- one set at j = 11: the sum stops at 1,000,000,000, and trips there; one less does not
    (timer_after VeryInverse 11 (record { sum = 999990000; trip = false }), record { sum = 1000000000; trip = true })
    ∷ (timer_after VeryInverse 11 (record { sum = 999987655; trip = false }), record { sum = 1000000000; trip = true })
    ∷ (timer_after VeryInverse 11 (record { sum = 999987654; trip = false }), record { sum = 999999999; trip = false })
    -- one at j = 10: the sum is cleared, the trip stays
    ∷ (timer_after VeryInverse 10 (record { sum = 5; trip = false }), idle)
    ∷ (timer_after VeryInverse 10 (record { sum = 1000000000; trip = true }), record { sum = 0; trip = true })
    -- held at j = 200, where a set adds 8,264,462: tripped at set 122
    ∷ (after_sets ExtremelyInverse (replicate 121 200), record { sum = 999999902; trip = false })
    ∷ (after_sets ExtremelyInverse (replicate 122 200), record { sum = 1000000000; trip = true })
    ∷ []

timers_met : map (λ r. r.0) timers ≡ map (λ r. r.1) timers
unfolding timers timer_after sum_after growth entry
timers_met = refl
