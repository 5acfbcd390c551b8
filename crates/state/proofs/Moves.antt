-- All numbers moved on by twelve, and twelve put in the last place.
use Prim.Native.Nat.{ℕ, ◌+◌, ◌-◌}
use mathlib.Core.Path.{◌≡◌, ap, ◌∙◌}
use mathlib.Core.List.{List, ◌++◌, append-nil}
use native.Mathlib.Omega.{arith}
use lib.ListN.{length, take, drop, length-append, length-drop, drop_of_length-le}
use lib.Seq.{paste, take_all, take_at}
use lib.IntN.{ℤ}

pub shift_all : (w : List ℤ) → length w ≡ 144 → paste w 0 (drop 12 w) (length w - 12) ≡ drop 12 w ++ drop 132 w
shift_all w e = ap (λ (n : ℕ). paste w 0 (drop 12 w) (n - 12)) e ∙ ap (λ (l : List ℤ). l ++ drop 132 w) (take_all 132 (drop 12 w) (omega (arith, length-drop 12 w)))

pub put_last : (w u ns : List ℤ) → length w ≡ 144 → u ≡ drop 12 w ++ drop 132 w → take 132 u ++ (ns ++ drop (132 + 12) u) ≡ drop 12 w ++ ns
put_last w u ns ew eu =
    let hu : length u ≡ 144 = ap length eu ∙ length-append (drop 12 w) (drop 132 w) ∙ omega (arith, length-drop 12 w, length-drop 132 w) in
    let ht : take 132 u ≡ drop 12 w = ap (take 132) eu ∙ take_at (drop 12 w) (drop 132 w) 132 (omega (arith, length-drop 12 w)) in
    ap (λ (l : List ℤ). l ++ (ns ++ drop (132 + 12) u)) ht
    ∙ ap (λ (l : List ℤ). drop 12 w ++ (ns ++ l)) (drop_of_length-le u {i = 132 + 12} (omega arith))
    ∙ ap (λ (l : List ℤ). drop 12 w ++ l) (append-nil ns)
