-- The sums of columns: of a list with one number more, of a list with one place raised, and what the loop over the bytes keeps.
use mathlib.Core.Path.{◌≡◌, refl, ap}
use mathlib.Core.List.{List, [], ◌∷◌, ◌++◌}
use Prim.Native.Nat.{ℕ, zero, suc, ◌+◌, ◌*◌, ◌-◌, ◌/◌, ◌%◌, ◌<◌, ◌≤◌}
use native.Mathlib.Numerals.{add-one}
use native.Mathlib.Omega.{arith}
use lib.ListN.{length, get_or, set, take, drop, replicate, length-append, length-set}
use lib.Seq.{take-suc, take-suc-set, take_all}
use Rattle.block.specs.Block.{sums_from, sums_of}
use Rattle.block.specs.Columns.{total, weighed, column_sums}
use Rattle.block.proofs.Turns.{sums_more, sums_done}

-- ---- one number more

total_snoc : (xs : List ℕ) (x : ℕ) → total (xs ++ (x ∷ [])) ≡ total xs + x
unfolding total
total_snoc [] x = omega arith
total_snoc (y ∷ xs) x = omega (arith, total_snoc xs x)

weighed_snoc : (xs : List ℕ) (x : ℕ) → weighed (xs ++ (x ∷ [])) ≡ weighed xs + (total xs + x)
unfolding total weighed
weighed_snoc [] x = omega arith
weighed_snoc (y ∷ xs) x = rw (length-append xs (x ∷ []), weighed_snoc xs x) (omega arith)

module _ (t : List ℕ) (j : ℕ) (h : j < length t) where
  pub total_next : total (take (j + 1) t) ≡ total (take j t) + get_or t j 0
  total_next = rw (add-one j, take-suc t j 0 h) (total_snoc (take j t) (get_or t j 0))

  pub weighed_next : weighed (take (j + 1) t) ≡ weighed (take j t) + (total (take j t) + get_or t j 0)
  weighed_next = rw (add-one j, take-suc t j 0 h) (weighed_snoc (take j t) (get_or t j 0))

-- ---- one place raised by x

total_raised : (t : List ℕ) (j x : ℕ) → j < length t → total (set t j (get_or t j 0 + x)) ≡ total t + x
unfolding total
total_raised [] j x h = absurd (omega arith)
total_raised (y ∷ t) zero x h = omega arith
total_raised (y ∷ t) (suc j) x h = omega (arith, total_raised t j x (omega arith))

weighed_raised : (t : List ℕ) (j x : ℕ) → j < length t → weighed (set t j (get_or t j 0 + x)) + j * x ≡ weighed t + length t * x
unfolding weighed
weighed_raised [] j x h = absurd (omega arith)
weighed_raised (y ∷ t) zero x h = omega arith
weighed_raised (y ∷ t) (suc j) x h = rw (length-set t j (get_or t j 0 + x)) (omega (arith, weighed_raised t j x (omega arith)))

-- ---- each place of a list

-- what holds at each place holds after a store, if it holds of what is stored
set_each : (P : ℕ → ℕ → Type 0) (t : List ℕ) (j : ℕ) {v : ℕ} → P j v → ((k : ℕ) → P k (get_or t k 0)) → (k : ℕ) → P k (get_or (set t j v) k 0)
set_each P [] j p h k = h k
set_each P (y ∷ t) zero p h zero = p
set_each P (y ∷ t) zero p h (suc k) = h (suc k)
set_each P (y ∷ t) (suc j) p h zero = h zero
set_each P (y ∷ t) (suc j) p h (suc k) = set_each (λ i. P (suc i)) t j p (λ i. h (suc i)) k

zero_at : (n k : ℕ) → get_or {A = ℕ} (replicate n 0) k 0 ≡ 0
zero_at zero k = refl
zero_at (suc n) zero = refl
zero_at (suc n) (suc k) = zero_at n k

-- ---- the loop over the bytes

-- how many bytes of column k are among the first i
abbrev seen : ℕ → ℕ → ℕ
seen i k = (i + 33 - k) / 34

-- After j bytes of the row from `at` on, the plain sums of the bytes so far are the sum of the columns, and b. The sums of columns before j count their bytes
-- as often as the end of this row does, 34 − j times more than b, and the others as often as the end of the row before, j times less.
pub record Added (s sums rows : List ℕ) (at j : ℕ) : Type 0 where
  pub row : at % 34 ≡ 0
  pub all_sums : length sums ≡ 34
  pub all_rows : length rows ≡ 34
  pub small : (k : ℕ) → get_or sums k 0 ≤ 255 * seen (at + j) k
  pub small' : (k : ℕ) → get_or rows k 0 ≤ 3570 * (seen (at + j) k - 1)
  pub b : ℕ
  pub left : sums_from (total sums % 255) (b % 255) (drop (at + j) s) ≡ sums_of s
  pub level : weighed sums + 34 * total rows + j * total sums ≡ b + 34 * total (take j sums)

pub added_none : (s : List ℕ) → Added s (replicate 34 0) (replicate 34 0) 0 0
unfolding total weighed
added_none s =
    record {
      row = refl;
      all_sums = refl;
      all_rows = refl;
      small = λ k. omega (arith, zero_at 34 k);
      small' = λ k. omega (arith, zero_at 34 k);
      b = 0;
      left = refl;
      level = refl;
    }

module _ {s sums rows : List ℕ} {at j : ℕ} (h : Added s sums rows at j) where
  -- one byte
  pub added_more : j < 34 → at < 510 → length s ≡ 510 → {x : ℕ} → x ≡ get_or s (at + j) 0 → x < 256
      → Added s (set sums j (get_or sums j 0 + x)) (set rows j (get_or rows j 0 + get_or sums j 0)) at (j + 1)
  added_more l m n {x} e f =
      let c = get_or sums j 0 in
      let place : at + (j + 1) ≡ at + j + 1 = omega arith in
      let inside : at + j < length s = omega (arith, h.row) in
      let in-sums : j < length sums = omega (arith, h.all_sums) in
      let in_rows : j < length rows = omega (arith, h.all_rows) in
      let more : (k : ℕ) → seen (at + j) k ≤ seen (at + (j + 1)) k = λ k. omega arith in
      let sum : total (set sums j (c + x)) ≡ total sums + x = total_raised sums j x in-sums in
      let weight : weighed (set sums j (c + x)) + j * x ≡ weighed sums + 34 * x = rw h.all_sums at (weighed_raised sums j x in-sums) in
      let sum' : total (set rows j (get_or rows j 0 + c)) ≡ total rows + c = total_raised rows j c in_rows in
      let front : total (take (j + 1) (set sums j (c + x))) ≡ total (take j sums) + (c + x) =
      rw (add-one j, take-suc-set sums j (c + x) in-sums) (total_snoc (take j sums) (c + x))
      in
      record {
        row = h.row;
        all_sums = simp length-set h.all_sums;
        all_rows = simp length-set h.all_rows;
        small = set_each (λ k v. v ≤ 255 * seen (at + (j + 1)) k) sums j (omega (arith, h.row, h.small j)) (λ k. omega (arith, h.small k, more k));
        small' =
            set_each
            (λ k v. v ≤ 3570 * (seen (at + (j + 1)) k - 1))
            rows
            j
            (omega (arith, h.row, h.small j, h.small' j))
            (λ k. omega (arith, h.small' k, more k));
        b = h.b + (total sums + x);
        left = rw (place, sum) (sums_more _ s (at + j) (total sums) h.b h.left inside (rw e) refl);
        level = rw (sum, sum', front) (omega (arith, weight, h.level));
      }

  -- the end of a row is the start of the next
  pub added_row : j ≡ 34 → {next : ℕ} → next ≡ at + 34 → Added s sums rows next 0
  unfolding total
  added_row e {next} f =
      let all : total (take j sums) ≡ total sums = ap total (take_all j sums (omega (arith, h.all_sums))) in
      let place : next + 0 ≡ at + j = omega arith in
      record {
        row = omega (arith, h.row);
        all_sums = h.all_sums;
        all_rows = h.all_rows;
        small = rw place h.small;
        small' = rw place h.small';
        b = h.b;
        left = rw place h.left;
        level = omega (arith, h.level, ap (λ (k : ℕ). k * total sums) e);
      }

-- the end of the last
pub added_all : {s sums rows : List ℕ} {at : ℕ} → Added s sums rows at 0 → length s ≤ at → column_sums (record { sums = sums; rows = rows }) ≡ sums_of s
unfolding total
added_all {s} {sums} {rows} {at} h l =
    let same : weighed sums + 34 * total rows ≡ h.b = omega (arith, h.level) in
    rw same (sums_done _ s (at + 0) (total sums) h.b h.left (omega arith))
