-- A loop that fills twelve places from the front, three a turn: those of end z at 3z, 3z + 1 and 3z + 2.
use mathlib.Core.Path.{◌≡◌}
use mathlib.Core.List.{List}
use Prim.Native.Nat.{ℕ, ◌+◌, ◌*◌, ◌/◌, ◌%◌, ◌<◌}
use native.Mathlib.Omega.{arith}
use lib.ListN.{set}
use Rattle.lists.proofs.Fill.{Filled, filled_more}

module _ {A : Type 0} {d : A} {n : ℕ} {f : ℕ → A} {t : List A} where
  pub three_more : (z : ℕ) {a b c : A} → Filled d n f t (3 * z) → 3 * z + 2 < n → a ≡ f (3 * z) → b ≡ f (3 * z + 1) → c ≡ f (3 * z + 2) →
      Filled d n f (set (set (set t (3 * z) a) (3 * z + 1) b) (3 * z + 2) c) (3 * (z + 1))
  three_more z h l p q r =
      let two : 3 * z + 1 + 1 ≡ 3 * z + 2 = omega arith in
      let all : 3 * z + 2 + 1 ≡ 3 * (z + 1) = omega arith in
      rw all at (filled_more (rw two at (filled_more (filled_more h (omega arith) p) (omega arith) q)) l r)

-- the end and the place in it of place j of twelve
pub end_place : {A : Type 0} (f : ℕ → ℕ → A) (z y j : ℕ) → j ≡ 3 * z + y → y < 3 → f z y ≡ f (j / 3) (j % 3)
end_place f z y j e h =
    let end : j / 3 ≡ z = omega arith in
    let place : j % 3 ≡ y = omega arith in
    rw (end, place)
