-- Reading and writing undo each other. The reader accepts a block that has its length, its check and its mark, whose zero bytes are zero, and that holds
-- storable values: the block of these values is then its first 510 bytes with their check, the block itself.
-- The writer accepts storable values: their block has all of that, and holds these values.
use mathlib.Core.Path.{◌≡◌, refl, sym, ap, ◌∙◌}
use mathlib.Core.Bool.{Bool, true, false, not, ◌&&◌, not-not}
use mathlib.Core.List.{List, [], ◌∷◌, ◌++◌, append_assoc}
use Prim.Native.Nat.{ℕ}
use native.Mathlib.Omega.{arith}
use lib.Dec.{T, eqb, ltb, eqb→eq}
use lib.ListN.{length, take, drop, replicate, length-append}
use lib.Seq.{take_at}
use borrow.Author.Tests.{eq-eqb, le-ltb}
use Rattle.lists.specs.Tests.{hold}
use Rattle.lists.proofs.TestLaws.{split, pair, is_true, hold_at, each-++}
use Rattle.refusal.specs.Refusals.{◌when◌, gives, done, none_applies}
use Rattle.block.specs.Bytes.{are_bytes}
use Rattle.block.specs.Block.{sums_of, checked, sealed}
use Rattle.block.proofs.ByteLaws.{byte_at, checked_is, sealed_checked}
use Rattle.setting.specs.declared.Field.{Field}
use Rattle.setting.specs.declared.Setting.{Setting}
use Rattle.setting.specs.Values.{right, between, fields, all_right, factor_high, factors_low, value_rows, store_rows, storable}
use Rattle.setting.specs.Worked.{fallen}
use Rattle.setting.specs.Verdicts.{fallen_held}
use Rattle.refusal.proofs.Stops.{none_gives, gives_none, gives_same}
use Rattle.setting.proofs.LimitLaws.{storable_is}
use Rattle.setting_block.specs.Layout.{setting_at, marked, spares, header, block_of}
use Rattle.setting_block.specs.Calls.{read_rows, read_of, write_rows, write_of, write_leaves}
use Rattle.setting_block.specs.Held.{ReadHeld, HeldRead, FallenRead}
use Rattle.setting_block.specs.RoundTrip.{ReadThenWrite, WriteThenRead}
use Rattle.setting_block.proofs.LayoutLaws.{spares_zero, zero_spares, body_is, header_length, header_marked, header_zero, setting_back}

-- ---- when the reader accepts, and when the writer does

-- with fields gs beside those of the values
none_beside : (v : Setting) (gs : List Field) → none_applies (value_rows (fields v ++ gs) v) ≡ hold (storable v ∷ all_right gs ∷ [])
unfolding value_rows
none_beside v gs =
    rw (each-++ right (fields v) gs)
    (by (between 2 4 v.ends) (all_right (fields v)) (all_right gs) (not (factor_high v) && (not (factors_low v) && true)))
  where
    by : (e f g r : Bool) → (not (not e) && (not (not (f && g)) && r)) ≡ ((not (not e) && (not (not f) && r)) && (g && true))
    by false f g r = refl
    by true false g r = refl
    by true true true true = refl
    by true true true false = refl
    by true true false true = refl
    by true true false false = refl

-- what the reader asks of a block
abbrev tests : List ℕ → List Bool
tests s = eqb (length s) 512 ∷ checked s ∷ marked s ∷ storable (setting_at s) ∷ all_right (spares s) ∷ []

reads_when : (s : List ℕ) → none_applies (read_rows s) ≡ hold (tests s)
unfolding read_rows
reads_when s = rw (none_beside (setting_at s) (spares s)) (simp not-not)

writes_when : (v : Setting) (buffer : List ℕ) → none_applies (write_rows v buffer) ≡ (storable v && (not (ltb (length buffer) 512) && true))
unfolding write_rows
writes_when v buffer = each-++ (λ r. not r.applies) (store_rows v) ((13 when ltb (length buffer) 512) ∷ [])

-- what the reader asks of a block whose values it gives
asked : (s : List ℕ) (v : Setting) → read_of s ≡ gives v → T (hold (tests s))
asked s v e = rw reads_when at (gives_none (read_rows s) _ v e)

pub read_held : ReadHeld
unfolding ReadHeld
read_held s v e =
    let same : setting_at s ≡ v = gives_same (read_rows s) (setting_at s) v e in
    rw same at (hold_at (tests s) (asked s v e) 3)

-- ---- a block that the reader accepts is the block of its values

block_back : (s : List ℕ) → T (are_bytes s) → T (hold (tests s)) → block_of (setting_at s) ≡ s
unfolding block_of
block_back s bytes h =
    let at = hold_at (tests s) h in
    let l : length s ≡ 512 = eqb→eq (length s) 512 (at 0) in
    ap sealed (body_is s (byte_at s bytes) (omega arith) (at 2) (spares_zero s (at 4))) ∙ sym (checked_is s l (at 1))

pub read_write : ReadThenWrite
unfolding ReadThenWrite ReadHeld
read_write s v bytes e buffer l =
    let same : setting_at s ≡ v = gives_same (read_rows s) (setting_at s) v e in
    let ok : T (storable v) = read_held s v e in
    let back : block_of v ≡ s = rw same at (block_back s bytes (asked s v e)) in
    let n : T (none_applies (write_rows v buffer)) = rw (writes_when v buffer) (pair (storable v) _ ok (rw (le-ltb (length buffer) 512 l) tt)) in
    let written : write_of v buffer ≡ done = none_gives (write_rows v buffer) n _ in
    (written, rw (written, back))

-- ---- the block of storable values is one that the reader accepts, and holds these values

module _ (v : Setting) where
  abbrev body : List ℕ
  body = header v ++ replicate 433 0

  body_length : length body ≡ 510
  body_length = rw (length-append (header v) (replicate 433 0), header_length v)

  sums : List ℕ
  sums = (sums_of body).a ∷ (sums_of body).b ∷ []

  block_length : length (block_of v) ≡ 512
  unfolding block_of
  block_length = rw (length-append body, body_length)

  block_parts : block_of v ≡ header v ++ (replicate 433 0 ++ sums)
  unfolding block_of sums
  block_parts = append_assoc (header v) (replicate 433 0) sums

  values_back : T (storable v) → setting_at (block_of v) ≡ v
  values_back h = rw block_parts (setting_back v (replicate 433 0 ++ sums) (storable_is v h))

  block_checked : checked (block_of v) ≡ true
  unfolding block_of
  block_checked = sealed_checked body body_length

  block_tests : T (storable v) → T (hold (tests (block_of v)))
  block_tests h =
      let l : eqb (length (block_of v)) 512 ≡ true = eq-eqb (length (block_of v)) 512 block_length in
      let m : marked (block_of v) ≡ true = rw block_parts (header_marked v (replicate 433 0 ++ sums)) in
      let z : all_right (spares (block_of v)) ≡ true = is_true (zero_spares (block_of v) (rw block_parts (header_zero v sums))) in
      let ok : storable v ≡ true = is_true h in
      rw (l, block_checked, m, values_back h, ok, z) tt

pub held_read : HeldRead
unfolding HeldRead
held_read v ok = none_gives (read_rows (block_of v)) (rw reads_when (block_tests v ok)) _ ∙ ap gives (values_back v ok)

pub fallen_read : FallenRead
unfolding FallenRead HeldRead
fallen_read = held_read fallen (gives_none (store_rows fallen) _ _ fallen_held)

pub write_read : WriteThenRead
unfolding WriteThenRead HeldRead
write_read v buffer e =
    let n : T (none_applies (write_rows v buffer)) = gives_none (write_rows v buffer) _ _ e in
    let ok : T (storable v) = (split (storable v) _ (rw writes_when at n)).0 in
    let block : take 512 (write_leaves v buffer) ≡ block_of v = rw e (take_at (block_of v) (drop 512 buffer) 512 (block_length v)) in
    rw block (held_read v ok)
