-- What the writer gives in each of its cases, and the block that it makes.
use mathlib.Core.Path.{◌≡◌, refl, sym, ap, ◌∙◌}
use mathlib.Core.List.{List, [], ◌∷◌, ◌++◌, append_assoc}
use Prim.Native.Nat.{ℕ, ◌+◌, ◌<◌, ◌≤◌}
use native.Mathlib.Omega.{arith}
use lib.Dec.{ltb}
use lib.ListN.{length, take, drop, replicate, length-append}
use lib.Seq.{length-take-le, take_at, take-append-add, drop-append-add, drop-drop}
use borrow.Author.Tests.{lt-ltb, le-ltb}
use Rattle.std.specs.Prelude.{Result, Ok, Err}
use Rattle.refusal.specs.declared.Refusal.{Refusal}
use Rattle.refusal.specs.Refusals.{told_of, Row, declines, done, ◌when◌, first_refusal, outcome_of}
use Rattle.block.specs.Block.{sealed, buffer_with}
use Rattle.setting.specs.declared.Setting.{Setting}
use Rattle.setting.specs.Values.{store_rows}
use Rattle.setting.specs.Calls.{Judges}
use Rattle.setting_block.specs.Layout.{Laid, header, block_of}
use Rattle.setting_block.specs.Calls.{write_rows, write_of, Writes}
use Rattle.refusal.proofs.Stops.{refusal_stays, done_goes_on}

-- two pieces, put one after the other, are one
infixl 65 ◌then◌
pub ◌then◌ : {b p q b₁ r : List ℕ} {at : ℕ} → Laid b at p b₁ → Laid b₁ (at + length p) q r → Laid b at (p ++ q) r
◌then◌ {b} {p} {q} {at = at} k l =
    let n : ℕ = at + length p in
    let start : List ℕ = take at b ++ p in
    let s : length start ≡ n = length-append (take at b) p ∙ rw (length-take-le at b k.place) in
    let past : drop (n + length q) (start ++ drop n b) ≡ drop (n + length q) b =
    rw s at (drop-append-add start (drop n b) (length q)) ∙ drop-drop (length q) n b in
    let e : at + length (p ++ q) ≡ n + length q = omega (arith, length-append p q) in
    let joined : start ++ q ≡ take at b ++ (p ++ q) = append_assoc (take at b) p q in
    record { place = k.place; bytes = l.bytes ∙ rw (k.bytes, take_at start (drop n b) n s, past, e, joined) }

-- a block of zeros with the header put at its start: of the 510 bytes that are sealed, 433 are the zeros after the header
pub header_sealed : (v : Setting) {b : List ℕ} → Laid (replicate 512 0) 0 (header v) b → sealed (take 510 b) ≡ block_of v
unfolding header block_of
header_sealed v l = ap (λ (z : List ℕ). sealed (take 510 z)) l.bytes ∙ ap sealed (take-append-add (header v) (drop 77 (replicate 512 0)) 433)

module _ (v : Setting) (buffer : List ℕ) where
  -- the last row of the writer's
  abbrev room : List Row
  room = (13 when ltb (length buffer) 512) ∷ []

  -- a refusal leaves the buffer
  declined : (r : Result (Unit {0}) Refusal) (q : Refusal) → outcome_of r ≡ declines (told_of q) → declines (told_of q) ≡ write_of v buffer → Writes v buffer r buffer
  declined r q e o = record { outcome = e ∙ o; bytes = rw (← o) }

  pub not_sound : (r : Result (Unit {0}) Refusal) (q : Refusal) → outcome_of r ≡ declines (told_of q) → Judges v (Err q) → Writes v buffer r buffer
  unfolding write_rows
  not_sound r q e j = declined r q e (refusal_stays (store_rows v) room j)

  module _ (j : Judges v (Ok (tt {0}))) where
    past : write_of v buffer ≡ first_refusal room
    unfolding write_rows
    past = done_goes_on (store_rows v) room j

    pub no_room : length buffer < 512 → Writes v buffer (Err Refusal.Room) buffer
    no_room h = declined (Err Refusal.Room) Refusal.Room refl (sym (past ∙ rw (lt-ltb (length buffer) 512 h)))

    pub written : 512 ≤ length buffer → Writes v buffer (Ok (tt {0})) (buffer_with buffer (block_of v))
    written h = let o : write_of v buffer ≡ done = past ∙ rw (le-ltb (length buffer) 512 h) in record { outcome = sym o; bytes = rw o }
