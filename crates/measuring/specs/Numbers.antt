-- The numbers to meet (§ Numbers to meet, all that are marked (T)): one table of what the definitions give and what is asked, and one lemma over it.
use Rattle.std.specs.Prelude.{◌≡◌, refl, Bool, true, false, cond, List, [], ◌∷◌, ◌++◌, map, ℕ, ◌/◌, ◌%◌, ltb, eqb, ℤ, pos, negsuc}
use Rattle.integer.specs.Within.{neg}
use Rattle.integer.specs.Nearest.{nearest_away, nearest, floor}
use Rattle.integer.specs.Root.{root_by}
use Rattle.integer.specs.Sum.{sum}
use Rattle.lists.specs.Lists.{up_to}
use Rattle.setting.specs.Values.{factor, factor_high, factors_low, start_rows}
use Rattle.setting.specs.Worked.{rated, two_ends, plain}
use Rattle.setting.specs.Verdicts.{told_by}
use Rattle.matching.specs.declared.Three.{Three}
use Rattle.matching.specs.Matching.{three, operation, operated, matched}
use Rattle.matching.specs.Sets.{sys_a, sys_b, sys_c, seen}
use Rattle.amplitude.specs.Amplitude.{t, weighted_sum, cycle, amplitude}
use Rattle.characteristic.specs.Characteristic.{starts}
use Rattle.measuring.specs.Measuring.{differential, second, fifth}

-- A row: what the definitions give, and the number to meet.
abbrev Worked : Type 0
Worked = ℤ × ℤ

-- ---- settings of two ends, of group 0 with no filter, and P 200, m1 30, m2 70, Q 4,000

-- K of an end by V, I and S
abbrev factor_of : (voltage current power : ℕ) → ℤ
factor_of v i s = factor (two_ends s (rated v i) (rated v i)) 0

-- the number of the refusal of a setting with V 780 and S 1,351, by I of each end; 0 where it is accepted
abbrev refusal_of : (current0 current1 : ℕ) → ℤ
refusal_of i j = pos (told_by (start_rows (two_ends 1351 (rated 780 i) (rated 780 j)))).number

settings : List Worked
settings =
    (factor_of 780 1000 1351, pos 65536)
    ∷ (factor_of 780 16000 1351, pos 1048576)
    ∷ (refusal_of 16000 1000, pos 0)
    ∷ (refusal_of 16001 1000, pos 6)
    ∷ (refusal_of 500 500, pos 0)
    ∷ (refusal_of 499 499, pos 7)
    ∷ (factor_of 1100 300 400, pos 93647)
    ∷ (factor_of 200 1200 400, pos 68107)
    ∷ []

-- ---- the matched numbers of systems 1, 2, 3, for the samples x of A, B, C

abbrev trio : (K g : ℕ) (filter : Bool) → Three → (a b c : ℤ) → List Worked
trio K g f x a b c =
    (matched (pos K) g f (seen sys_a x), a) ∷ (matched (pos K) g f (seen sys_b x), b) ∷ (matched (pos K) g f (seen sys_c x), c) ∷ []

matchings : List Worked
matchings =
    trio 32768 0 false (three (pos 1) (pos 0) (pos 0)) (pos 1) (pos 0) (pos 0)
    ++ trio 32768 0 false (three (neg 1) (pos 0) (pos 0)) (neg 1) (pos 0) (pos 0)
    ++ trio 65536 5 false (three (pos 1000) (pos 0) (neg 1000)) (neg 1155) (pos 577) (pos 577)
    ++ trio 65536 5 true (three (pos 1000) (pos 0) (neg 1000)) (neg 1155) (pos 577) (pos 577)
    ++ trio 65536 0 true (three (pos 300) (pos 0) (pos 0)) (pos 200) (neg 100) (neg 100)

-- ---- windows and the characteristic

-- six 100, then six −100; twelve of 100; and twelve of 0
square : ℕ → ℤ
square k = cond (ltb k 6) (pos 100) (negsuc 99)

flat : ℕ → ℤ
flat k = pos 100

idle : ℕ → ℤ
idle k = pos 0

-- the window with these numbers of systems 1 and 2 at end 0, and zero elsewhere
unfoldable pub window : (a b : ℕ → ℤ) → List ℤ
window a b = up_to 144 (λ i. cond (eqb (i % 12) 0) (a (i / 12)) (cond (eqb (i % 12) 1) (b (i / 12)) (pos 0)))

-- 1 where it starts
starting : (R D : ℕ) → ℤ
starting R D = cond (starts plain D R) (pos 1) (pos 0)

measurings : List Worked
measurings =
    (pos (differential plain (window square idle) sys_a), pos 128)
    ∷ (pos (second plain (window square idle) sys_a), pos 0)
    ∷ (pos (fifth plain (window square idle) sys_a), pos 34)
    ∷ (pos (differential plain (window flat idle) sys_a), pos 0)
    ∷ (starting 200 201, pos 1)
    ∷ (starting 200 200, pos 0)
    ∷ (starting 1200 351, pos 1)
    ∷ (starting 1200 350, pos 0)
    ∷ (starting 10000 2071, pos 1)
    ∷ (starting 10000 2070, pos 0)
    ∷ []

-- ---- the table

pub table : List Worked
table = settings ++ (matchings ++ measurings)

pub table_met : map (λ r. r.0) table ≡ map (λ r. r.1) table
unfolding table settings matchings measurings square flat idle window plain starting factor factor_high factors_low start_rows seen
    matched operated operation starts amplitude cycle weighted_sum t sum nearest_away nearest floor root_by up_to
table_met = refl
