-- The window of a list of sets, twelve numbers a set laid out flat. Filing a set: the window of the last twelve of some sets becomes that of the last
-- twelve of these and the new one.
use mathlib.Core.Path.{◌≡◌, refl, ap, ◌∙◌}
use mathlib.Core.Bool.{Bool, true, false}
use mathlib.Core.List.{List, [], ◌∷◌, ◌++◌, append_assoc, append-nil, flatten}
use Prim.Native.Nat.{◌+◌, ◌*◌, ◌-◌, ◌≤◌, ◌<◌}
use native.Mathlib.Omega.{arith}
use lib.Dec.{ltb}
use borrow.Author.Tests.{lt-ltb, le-ltb, ltb-true, ltb-false}
use lib.IntN.{ℤ, pos}
use lib.ListN.{length, get_or, take, drop, replicate, length-append, length-drop, replicate-append-replicate}
use lib.Seq.{take_at, drop_at, drop-append-add, drop-append-le}
use Rattle.lists.specs.Tests.{Each, none, ◌&◌}
use Rattle.lists.proofs.Places.{drop_next, flat_snoc}
use Rattle.lists.proofs.TestLaws.{each_drop}
use Rattle.state.specs.State.{window_with}
use Rattle.stability.specs.Lists.{last12, window_of}

-- ---- sets laid out flat

abbrev pub Twelve : List ℤ → Type 0
Twelve ns = length ns ≡ 12

last12_length : (ws : List (List ℤ)) → 12 ≤ length ws → length (last12 ws) ≡ 12
unfolding last12
last12_length ws h = simp length-drop (omega arith)

pub each_last12 : {P : List ℤ → Type 0} {ws : List (List ℤ)} → Each P ws → Each P (last12 ws)
unfolding last12
each_last12 {ws = ws} h = each_drop h (length ws - 12)

flat_length : {ws : List (List ℤ)} → Each Twelve ws → length (flatten ws) ≡ 12 * length ws
unfolding flatten
flat_length none = refl
flat_length (◌&◌ {a = w} {l = ws} e h) = length-append w (flatten ws) ∙ omega (arith, e, flat_length h)

-- ---- filing

module _ {ws : List (List ℤ)} (ns : List ℤ) where
  -- while there is room
  room : Each Twelve ws → length ws < 12 → window_with (window_of ws) ns ≡ window_of (ws ++ (ns ∷ []))
  unfolding window_with window_of
  room each h =
      let n = length ws in
      let m = 144 - 12 * (n + 1) in
      let zeros = replicate (144 - 12 * n) (pos 0) in
      let more : length (ws ++ (ns ∷ [])) ≡ n + 1 = length-append ws (ns ∷ []) in
      let left : 144 - 12 * n ≡ 12 + m = omega arith in
      let at : 12 * n + 12 ≡ length (flatten ws) + 12 = omega (arith, flat_length each) in
      let front : take (12 * n) (flatten ws ++ zeros) ≡ flatten ws = take_at (flatten ws) zeros (12 * n) (flat_length each) in
      let back : drop (12 * n + 12) (flatten ws ++ zeros) ≡ replicate m (pos 0) =
      rw (at, drop-append-add (flatten ws) zeros 12, left, ← (replicate-append-replicate 12 m (pos 0))) (drop_at (replicate 12 (pos 0)) _ 12 refl) in
      rw (lt-ltb n 12 h, front, back, flat_snoc ws ns, more, append_assoc (flatten ws) ns (replicate m (pos 0)))

  -- once twelve are held
  oldest_gone : {w : List ℤ} → Each Twelve (w ∷ ws) → length ws ≡ 11 → window_with (window_of (w ∷ ws)) ns ≡ window_of (ws ++ (ns ∷ []))
  unfolding window_with window_of flatten
  oldest_gone {w} (one & each) e =
      let full : length (w ∷ ws) ≡ 12 = omega arith in
      let more : length (ws ++ (ns ∷ [])) ≡ 12 = length-append ws (ns ∷ []) ∙ omega arith in
      let old : drop 12 (flatten (w ∷ ws) ++ []) ≡ flatten ws = rw append-nil (drop_at w (flatten ws) 12 one) in
      rw (le-ltb (length (w ∷ ws)) 12 (omega arith), full, more, flat_snoc ws ns, old, append-nil (flatten ws ++ ns))

pub filed_window : {ws : List (List ℤ)} → Each Twelve ws → (ns : List ℤ) → window_with (window_of (last12 ws)) ns ≡ window_of (last12 (ws ++ (ns ∷ [])))
unfolding last12
filed_window {ws} each ns = by (ltb (length ws) 12) refl
  where
    by : (b : Bool) → ltb (length ws) 12 ≡ b → window_with (window_of (last12 ws)) ns ≡ window_of (last12 (ws ++ (ns ∷ [])))
    by true e =
        let few = ltb-true (length ws) 12 e in
        let all : length ws - 12 ≡ 0 = omega arith in
        let all_new : length (ws ++ (ns ∷ [])) - 12 ≡ 0 = omega (arith, length-append ws (ns ∷ [])) in
        rw (all, all_new) (room ns each few)
    by false e =
        let many = ltb-false (length ws) 12 e in
        let n = length ws - 12 in
        let split : last12 ws ≡ get_or ws n [] ∷ drop (n + 1) ws = drop_next ws n [] (omega arith) in
        let one_more : length (ws ++ (ns ∷ [])) - 12 ≡ n + 1 = omega (arith, length-append ws (ns ∷ [])) in
        rw (one_more, drop-append-le (n + 1) ws (ns ∷ []) (omega arith), split)
        (oldest_gone ns (rw split at (each_last12 each)) (omega (arith, last12_length ws many, ap length split)))
