-- Laws of the curves and their tables. A quotient rounded up, (a + (b − 1)) / b, is the least n with a ≤ n·b: n·b + b is more than a + (b − 1), and m·b
-- at least a makes a + (b − 1) less than (m + 1)·b. What holds for j = 11 to 200 alone is tested there, and carried to each j.
use mathlib.Core.Path.{◌≡◌, refl, ◌∙◌, ap, subst}
use mathlib.Core.Bool.{Bool, ◌&&◌}
use mathlib.Core.List.{List}
use Prim.Native.Nat.{ℕ, ◌+◌, ◌-◌, ◌/◌, ◌≤◌, ◌<◌}
use native.Mathlib.Nat.{lt-div-mul-add, div-lt_iff_lt-mul, mul-le-mul_right, pow-zero, pow-suc}
use native.Mathlib.Omega.{arith}
use lib.Dec.{T, eqb, leb, eqb→eq, leb→le}
use lib.ListN.{get_or}
use Rattle.lists.specs.Tests.{every}
use Rattle.lists.proofs.TestLaws.{every_at, split}
use Rattle.inverse_time.specs.declared.curves.Curve.{Curve}
use Rattle.inverse_time.specs.declared.curves.Curve.TheVariants.{VeryInverse, ExtremelyInverse}
use Rattle.inverse_time.specs.Curves.{over, under, entry, LeastAtLeast, EntryLeast, NumberOf, ByStandard}
use Rattle.inverse_time.specs.Timers.{most_sum}

-- A table whose numbers are the entries for j = 11 to 200, which one test of the 190 tells, has the entry of each such j at place j − 11.
pub table_at : {xs : List ℕ} {j r : ℕ} → NumberOf xs (j - 11) r → (c : Curve) → T (every 190 (λ k. eqb (get_or xs k 0) (entry c (11 + k)))) →
    11 ≤ j → j ≤ 200 → r ≡ entry c j
table_at {xs} {j} read c test l h =
    read.is
    ∙ eqb→eq _ _ (every_at 190 (λ k. eqb (get_or xs k 0) (entry c (11 + k))) test (j - 11) (omega arith))
    ∙ ap (entry c) (omega arith)

-- Every entry is one at least, and at most 1,000,000,000: by one test of the 190 for each curve.
abbrev small : ℕ → Bool
small e = leb 1 e && leb e most_sum

small_entries : (c : Curve) → T (every 190 (λ k. small (entry c (11 + k))))
unfolding entry
small_entries VeryInverse = tt
small_entries ExtremelyInverse = tt

pub entry_within : (c : Curve) (j : ℕ) → 11 ≤ j → j ≤ 200 → (1 ≤ entry c j) × (entry c j ≤ most_sum)
entry_within c j l h =
    let both = split (leb 1 e) (leb e most_sum) (every_at 190 (λ k. small (entry c (11 + k))) (small_entries c) (j - 11) (omega arith)) in
    subst (λ (j : ℕ). (1 ≤ entry c j) × (entry c j ≤ most_sum)) (omega arith) (leb→le 1 e both.0, leb→le e most_sum both.1)
  where
    e : ℕ
    e = entry c (11 + (j - 11))

-- ---- the rule

pub rounded_up : (a : ℕ) {b : ℕ} → 0 < b → LeastAtLeast a b ((a + (b - 1)) / b)
rounded_up a {b} h = record {
  enough = omega (arith, lt-div-mul-add {a = a + (b - 1)} h);
  least = λ m l. let e : (a + (b - 1)) / b < m + 1 = (div-lt_iff_lt-mul h).1 (omega arith) in omega arith;
}

under_some : (c : Curve) (j : ℕ) → 11 ≤ j → 0 < under c j
under_some VeryInverse j l = omega arith
under_some ExtremelyInverse j l = omega (arith, mul-le-mul_right j l)

pub entry_least : EntryLeast
unfolding EntryLeast entry
entry_least c j l h = rounded_up (over c) (under_some c j l)

pub by_standard : ByStandard
unfolding ByStandard
by_standard VeryInverse j = (refl, rw (pow-suc j 0, pow-zero j) (omega arith))
by_standard ExtremelyInverse j = (refl, rw (pow-suc j 1, pow-suc j 0, pow-zero j) (omega arith))
