-- Text put in a buffer, and the zeros that are left after it; texts put one after the other are put as one.
use mathlib.Core.Path.{◌≡◌, sym, ap, ◌∙◌}
use mathlib.Core.List.{List, ◌++◌, append_assoc}
use Prim.Native.Nat.{ℕ, ◌+◌, ◌-◌, ◌≤◌}
use native.Mathlib.Omega.{arith}
use lib.ListN.{length, take, drop, replicate, length-append}
use lib.Seq.{take-paste, drop-paste, length-paste, take-length, length-take-le, drop-drop}
use Rattle.std.proofs.lemmas.List.{drop-replicate}
use Rattle.text.specs.Text.{Room, Puts}

module _ {s b c : List ℕ} {at end : ℕ} (h : Room b at s) (p : Puts s b at c end) where
  -- the same length
  pub puts_length : length c ≡ length b
  puts_length = ap length p.bytes ∙ length-paste b at s (length s) h.room (omega arith)

  -- fewer zeros
  pub zeros_after : (n : ℕ) → drop at b ≡ replicate (n - at) 0 → drop end c ≡ replicate (n - end) 0
  zeros_after n zeros =
      let room : at ≤ length b = omega (arith, h.room) in
      let left : n - at - length s ≡ n - end = omega (arith, p.place) in
      rw (p.place, p.bytes) (drop-paste b at s (length s) room (omega arith))
      ∙ sym (drop-drop (length s) at b)
      ∙ ap (drop (length s)) zeros
      ∙ drop-replicate (length s) (n - at) 0
      ∙ ap (λ (k : ℕ). replicate k 0) left

-- a text of fixed memory has room for s in its n bytes, and is one after s is put
pub text_kept : {s b c text : List ℕ} {at end n : ℕ} → (at ≤ n) × (length b ≡ n) × (drop at b ≡ replicate (n - at) 0) → take at b ≡ text →
    length text + length s ≤ n → Puts s b at c end → (end ≤ n) × (length c ≡ n) × (drop end c ≡ replicate (n - end) 0)
text_kept {s} {b} {c} {text} {at} {end} {n} i e h p =
    let long : at ≡ length text = sym (length-take-le at b (omega (arith, i.0, i.1))) ∙ ap length e in
    let room : Room b at s = record { room = omega (arith, long, i.1, h) } in
    (omega (arith, long, p.place, h), puts_length room p ∙ i.1, zeros_after room p n i.2)

-- there is room for the first, and then for the second where there is room for both
pub room_first : {b : List ℕ} {at : ℕ} (s t : List ℕ) → Room b at (s ++ t) → Room b at s
room_first s t h = record { room = omega (arith, h.room, length-append s t) }

pub room_after : {s b c : List ℕ} {at end : ℕ} (t : List ℕ) → Room b at (s ++ t) → Puts s b at c end → Room c end t
room_after {s} t h p = record { room = omega (arith, h.room, length-append s t, puts_length (room_first s t h) p, p.place) }

module _ {s t b c d : List ℕ} {at m end : ℕ} (h : Room b at (s ++ t)) (p : Puts s b at c m) (q : Puts t c m d end) where
  both_length : length (s ++ t) ≡ length s + length t
  both_length = length-append s t

  pub puts_both : Puts (s ++ t) b at d end
  puts_both =
      let n = length s in
      let room : at ≤ length b = omega (arith, h.room, both_length) in
      let front : take (at + n) c ≡ take at b ++ s = rw p.bytes (take-paste b at s n room (omega arith)) ∙ ap (λ (x : List ℕ). take at b ++ x) (take-length s) in
      let rest : drop (at + n) c ≡ drop (at + n) b = rw p.bytes (drop-paste b at s n room (omega arith)) in
      let both : at + n + length t ≡ at + length (s ++ t) = omega (arith, both_length) in
      let back : drop (at + n + length t) c ≡ drop (at + length (s ++ t)) b =
      sym (drop-drop (length t) (at + n) c) ∙ ap (drop (length t)) rest ∙ drop-drop (length t) (at + n) b ∙ ap (λ (k : ℕ). drop k b) both in
      let tail = drop (at + length (s ++ t)) b in
      let front-m : take m c ≡ take at b ++ s = rw p.place front in
      let back-m : drop (m + length t) c ≡ tail = rw p.place back in
      record {
        bytes =
            q.bytes ∙ rw (front-m, back-m, take-length t, append_assoc (take at b) s t) (ap (λ (x : List ℕ). (take at b ++ x) ++ tail) (sym (take-length (s ++ t))));
        place = omega (arith, both_length, p.place, q.place);
      }
