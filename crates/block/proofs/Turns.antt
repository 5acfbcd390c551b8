-- One turn of the loop that adds up the check's sums.
use mathlib.Core.Path.{◌≡◌, sym, ap, ◌∙◌}
use mathlib.Core.List.{List}
use Prim.Native.Nat.{ℕ, ◌+◌, ◌%◌, ◌<◌, ◌≤◌}
use native.Mathlib.Omega.{arith}
use lib.ListN.{length, drop, get_or, drop_of_length-le}
use Rattle.block.specs.declared.Sums.{Sums}
use Rattle.block.specs.Block.{sums_from}
use Rattle.lists.proofs.Places.{drop_next}

-- the remainder of a sum is that of its terms' remainders
left_mod : (a x : ℕ) → (a % 255 + x) % 255 ≡ (a + x) % 255
left_mod a x = omega arith

right_mod : (a x : ℕ) → (a + x % 255) % 255 ≡ (a + x) % 255
right_mod a x = omega arith

-- a loop that adds each byte to the sums and takes no remainder: the sums from the remainders of a and b over what is left are r
module _ (r : Sums) (s : List ℕ) (i a b : ℕ) (inv : sums_from (a % 255) (b % 255) (drop i s) ≡ r) where
  pub sums_more : i < length s → {a' b' : ℕ} → a' ≡ a + get_or s i 0 → b' ≡ b + a'
      → sums_from (a' % 255) (b' % 255) (drop (i + 1) s) ≡ r
  unfolding sums_from
  sums_more h e f =
      let x = get_or s i 0 in
      let next : sums_from ((a % 255 + x) % 255) ((b % 255 + (a % 255 + x) % 255) % 255) (drop (i + 1) s) ≡ r =
      sym (ap (sums_from (a % 255) (b % 255)) (drop_next s i 0 h)) ∙ inv
      in
      rw (f, e) (simp (left_mod, right_mod) at next)

  pub sums_done : length s ≤ i → ◌≡◌ {A = Sums} (record { a = a % 255; b = b % 255 }) r
  unfolding sums_from
  sums_done h = sym (ap (sums_from (a % 255) (b % 255)) (drop_of_length-le s h)) ∙ inv
