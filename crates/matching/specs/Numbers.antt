-- Worked numbers at every group: of the matching, by source 001, and of the ideal currents of a bank, by § A healthy bank. Each is one table, and one
-- lemma over it. Those that § Numbers to meet marks (T) stand in the crate `measuring`.
use Rattle.std.specs.Prelude.{◌≡◌, refl, Bool, true, false, List, [], ◌∷◌, map, ℕ, ℤ, pos, ◌*ℤ◌}
use Rattle.integer.specs.Within.{neg}
use Rattle.integer.specs.Nearest.{floor, nearest, nearest_away}
use Rattle.matching.specs.declared.Three.{Three}
use Rattle.matching.specs.Matching.{three, Quotient, operation, even, operated, matched}
use Rattle.matching.specs.Sets.{System, sys_a, sys_b, sys_c, seen}
use Rattle.matching.specs.Bank.{line_current, gained, ideal, ideal_current}

-- the matched numbers of systems 1, 2, 3 for the samples x of A, B, C
trio : (K g : ℕ) (filter : Bool) → Three → Three
trio K g f x = three (matched (pos K) g f (seen sys_a x)) (matched (pos K) g f (seen sys_b x)) (matched (pos K) g f (seen sys_c x))

-- what the definitions give, and the numbers to meet
abbrev Worked : Type 0
Worked = Three × Three

-- ---- source 001, 2.2: "Mathematical operations on the low-voltage side", the table for even and the table for odd vector group characteristics

-- samples that are all different and do not sum to zero
abbrev samples : Three
samples = three (pos 1000) (pos 250) (neg 400)

-- columns "without" and "with zero-sequence filtering"
abbrev no_filter : (g : ℕ) (a b c : ℤ) → Worked
no_filter g a b c = ((trio 65536 g false samples), (three a b c))

abbrev with_filter : (g : ℕ) (a b c : ℤ) → Worked
with_filter g a b c = ((trio 65536 g true samples), (three a b c))

-- The numbers to meet were worked out from those two tables alone, with 780/1351 for 1/√3. The last row, at twice the factor, has other numbers
-- where p − z0 is rounded before K.
groups : List Worked
groups =
    no_filter 0 (pos 1000) (pos 250) (neg 400)
    ∷ no_filter 1 (pos 716) (pos 659) (neg 525)
    ∷ no_filter 2 (neg 250) (pos 400) (neg 1000)
    ∷ no_filter 3 (neg 92) (pos 1092) (neg 150)
    ∷ no_filter 4 (neg 400) (pos 1000) (pos 250)
    ∷ no_filter 5 (neg 525) (pos 716) (pos 659)
    ∷ no_filter 6 (neg 1000) (neg 250) (pos 400)
    ∷ no_filter 7 (neg 150) (neg 92) (pos 1092)
    ∷ no_filter 8 (pos 250) (neg 400) (pos 1000)
    ∷ no_filter 9 (pos 659) (neg 525) (pos 716)
    ∷ no_filter 10 (pos 400) (neg 1000) (neg 250)
    ∷ no_filter 11 (pos 1092) (neg 150) (neg 92)
    ∷ with_filter 0 (pos 717) (neg 33) (neg 683)
    ∷ with_filter 1 (pos 433) (pos 375) (neg 808)
    ∷ with_filter 2 (pos 33) (pos 683) (neg 717)
    ∷ with_filter 3 (neg 375) (pos 808) (neg 433)
    ∷ with_filter 4 (neg 683) (pos 717) (neg 33)
    ∷ with_filter 5 (neg 808) (pos 433) (pos 375)
    ∷ with_filter 6 (neg 717) (pos 33) (pos 683)
    ∷ with_filter 7 (neg 433) (neg 375) (pos 808)
    ∷ with_filter 8 (neg 33) (neg 683) (pos 717)
    ∷ with_filter 9 (pos 375) (neg 808) (pos 433)
    ∷ with_filter 10 (pos 683) (neg 717) (pos 33)
    ∷ with_filter 11 (pos 808) (neg 433) (neg 375)
    ∷ ((trio 131072 0 true samples), (three (pos 1433) (neg 67) (neg 1367)))
    ∷ []

groups_met : map (λ r. r.0) groups ≡ map (λ r. r.1) groups
unfolding groups trio seen matched operated operation nearest_away nearest floor
groups_met = refl

-- ---- § A healthy bank 4 to 7: the ideal line currents of a bank, at every group

-- currents of the limbs that are all different and sum to 9360
abbrev limbs : Three
limbs = three (pos 14040) (pos 4680) (neg 9360)

-- what the definition gives for the phases A, B, C of an end of k 2, and the numbers to meet, over the same
abbrev lines : (filter : Bool) (common g : ℕ) (a b c : ℤ) → Worked
lines f common g a b c =
    let i : System → Quotient = λ l. ideal_current (even g) f g 2 1 (seen l limbs) (pos common) in
    let over : System → ℤ = λ l. pos (i l).under in
    ((three (i sys_a).top (i sys_b).top (i sys_c).top), (three (over sys_a *ℤ a) (over sys_b *ℤ b) (over sys_c *ℤ c)))

abbrev line_off : (g : ℕ) (a b c : ℤ) → Worked
line_off = lines false 0

abbrev line_on : (g : ℕ) (a b c : ℤ) → Worked
line_on = lines true 1000

-- The numbers to meet were worked out from the words: T(12 − g) of the limbs, 1351/2340 times at odd groups; with the filter off 3120 more at odd groups;
-- half of that, as k is 2; with the filter on 1000 more.
currents : List Worked
currents =
    line_off 0 (pos 7020) (pos 2340) (neg 4680)
    ∷ line_off 1 (pos 8315) (neg 1142) (neg 2493)
    ∷ line_off 2 (pos 4680) (neg 7020) (neg 2340)
    ∷ line_off 3 (pos 5613) (neg 5195) (pos 4262)
    ∷ line_off 4 (pos 2340) (neg 4680) (pos 7020)
    ∷ line_off 5 (neg 1142) (neg 2493) (pos 8315)
    ∷ line_off 6 (neg 7020) (neg 2340) (pos 4680)
    ∷ line_off 7 (neg 5195) (pos 4262) (pos 5613)
    ∷ line_off 8 (neg 4680) (pos 7020) (pos 2340)
    ∷ line_off 9 (neg 2493) (pos 8315) (neg 1142)
    ∷ line_off 10 (neg 2340) (pos 4680) (neg 7020)
    ∷ line_off 11 (pos 4262) (pos 5613) (neg 5195)
    ∷ line_on 0 (pos 8020) (pos 3340) (neg 3680)
    ∷ line_on 1 (pos 7755) (neg 1702) (neg 3053)
    ∷ line_on 2 (pos 5680) (neg 6020) (neg 1340)
    ∷ line_on 3 (pos 5053) (neg 5755) (pos 3702)
    ∷ line_on 4 (pos 3340) (neg 3680) (pos 8020)
    ∷ line_on 5 (neg 1702) (neg 3053) (pos 7755)
    ∷ line_on 6 (neg 6020) (neg 1340) (pos 5680)
    ∷ line_on 7 (neg 5755) (pos 3702) (pos 5053)
    ∷ line_on 8 (neg 3680) (pos 8020) (pos 3340)
    ∷ line_on 9 (neg 3053) (pos 7755) (neg 1702)
    ∷ line_on 10 (neg 1340) (pos 5680) (neg 6020)
    ∷ line_on 11 (pos 3702) (pos 5053) (neg 5755)
    ∷ []

currents_met : map (λ r. r.0) currents ≡ map (λ r. r.1) currents
unfolding currents seen ideal gained line_current operation
currents_met = refl
