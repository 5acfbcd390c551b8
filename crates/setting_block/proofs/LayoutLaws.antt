-- The layout, both ways. Bytes with the mark and zero bytes are the header of the values that they hold, and then zeros: each number's bytes are those
-- it was read from. The values that a header holds are those it was made of: each number fits its bytes.
use mathlib.Core.Path.{◌≡◌, refl, sym, ◌∙◌}
use mathlib.Core.Bool.{true}
use mathlib.Core.List.{List, [], ◌∷◌, ◌++◌}
use Prim.Native.Nat.{ℕ, ◌+◌, ◌<◌, ◌≤◌}
use native.Mathlib.Nat.{zero-add, add-zero, add_assoc}
use native.Mathlib.Omega.{arith}
use lib.Dec.{T, eqb, eqb→eq}
use lib.ListN.{length, get_or, take, replicate, length-replicate, get_or-replicate, get_or-append}
use lib.Seq.{get_or-append-add}
use borrow.Author.Tests.{eq-eqb}
use Rattle.lists.specs.Lists.{up_to}
use Rattle.lists.specs.Tests.{each, Each, ◌&◌}
use Rattle.lists.proofs.TestLaws.{split, each_drop, each_get, each_test, test_each, each_map}
use Rattle.block.specs.Bytes.{u16_at, u32_at, bytes16, bytes32}
use Rattle.lists.proofs.Runs.{up_to_equal}
use Rattle.lists.proofs.Places.{get_or_up_to, take_up_to, up_to_add, up_to_same, up_to_each}
use Rattle.block.proofs.ByteLaws.{u16_bytes, u32_bytes, bytes_u16, bytes_u32}
use Rattle.setting.specs.declared.End.{End}
use Rattle.setting.specs.declared.Setting.{Setting}
use Rattle.setting.specs.Values.{right, all_right}
use Rattle.setting.proofs.LimitLaws.{Bounded, Storable}
use Rattle.setting_block.specs.Layout.{end_at, setting_at, marked, spare_offsets, spare, spares, end_bytes, header}

-- ---- the zero bytes, as facts

-- the byte at an offset is zero
abbrev pub Zero : List ℕ → ℕ → Type 0
Zero s at = get_or s at 0 ≡ 0

module _ (s : List ℕ) where
  spares_each : all_right (spares s) ≡ each (λ at. eqb (get_or s at 0) 0) spare_offsets
  unfolding spares
  spares_each = each_map right (spare s) spare_offsets

  pub spares_zero : T (all_right (spares s)) → Each (Zero s) spare_offsets
  spares_zero h = test_each (λ at. eqb (get_or s at 0) 0) (λ at. eqb→eq (get_or s at 0) 0) spare_offsets (rw spares_each at h)

  pub zero_spares : Each (Zero s) spare_offsets → T (all_right (spares s))
  zero_spares h = rw spares_each (each_test (λ at. eqb (get_or s at 0) 0) (λ at e. rw (eq-eqb (get_or s at 0) 0 e) tt) h)

-- ---- from bytes to values and back

-- p is the n bytes of s from a place on
record Part (s : List ℕ) (at n : ℕ) (p : List ℕ) : Type 0 where
  is : p ≡ up_to n (λ k. get_or s (at + k) 0)

infixl 65 ◌beside◌
◌beside◌ : {s p q : List ℕ} {at n m : ℕ} → Part s at n p → Part s (at + n) m q → Part s at (n + m) (p ++ q)
◌beside◌ {s} {at = at} {n = n} {m = m} a b =
    record { is = rw (a.is, b.is, up_to_add n m (λ k. get_or s (at + k) 0)) (simp add_assoc) }

-- bytes 0 to 7
mark_is : (s : List ℕ) → T (marked s) → Zero s 7 → Part s 0 8 (0x54 ∷ 0x44 ∷ 0x50 ∷ 0x31 ∷ get_or s 4 0 ∷ get_or s 5 0 ∷ get_or s 6 0 ∷ 0 ∷ [])
unfolding up_to
mark_is s h z =
    let p = split (eqb (get_or s 0 0) 0x54) _ h in
    let q = split (eqb (get_or s 1 0) 0x44) _ p.1 in
    let r = split (eqb (get_or s 2 0) 0x50) (eqb (get_or s 3 0) 0x31) q.1 in
    let first : get_or s 0 0 ≡ 0x54 = eqb→eq (get_or s 0 0) 0x54 p.0 in
    let second : get_or s 1 0 ≡ 0x44 = eqb→eq (get_or s 1 0) 0x44 q.0 in
    record { is = rw (first, second, eqb→eq (get_or s 2 0) 0x50 r.0, eqb→eq (get_or s 3 0) 0x31 r.1, z) }

module _ (s : List ℕ) (byte : (k : ℕ) → get_or s k 0 < 256) where
  one_is : (at : ℕ) → Part s at 1 (get_or s at 0 ∷ [])
  unfolding up_to
  one_is at = record { is = rw (add-zero at) }

  two_is : (at : ℕ) → Part s at 2 (bytes16 (u16_at s at))
  unfolding up_to
  two_is at = record { is = bytes_u16 s at (byte at) (byte (at + 1)) ∙ rw (add-zero at) }

  four_is : (at : ℕ) → Part s at 4 (bytes32 (u32_at s at))
  unfolding up_to
  four_is at = record { is = bytes_u32 s at (byte at) (byte (at + 1)) (byte (at + 2)) (byte (at + 3)) ∙ rw (add-zero at) }

  end_is : (at : ℕ) → Zero s (at + 10) → Zero s (at + 11) → Part s at 12 (end_bytes (end_at s at))
  unfolding up_to
  end_is at y z =
      let last : Part s (at + 8) 4 (get_or s (at + 8) 0 ∷ get_or s (at + 9) 0 ∷ 0 ∷ 0 ∷ []) = record { is = simp (add_assoc, y, z) } in
      four_is at beside four_is (at + 4) beside last

  -- bytes 0 to 76
  header_is : T (marked s) → Each (Zero s) spare_offsets → Part s 0 77 (header (setting_at s))
  unfolding header setting_at
  header_is m (z7 & z22 & z23 & z34 & z35 & z46 & z47 & z58 & z59 & rest) =
      mark_is s m z7
      beside four_is 8
      beside end_is 12 z22 z23
      beside end_is 24 z34 z35
      beside end_is 36 z46 z47
      beside end_is 48 z58 z59
      beside two_is 60
      beside two_is 62
      beside two_is 64
      beside two_is 66
      beside two_is 68
      beside two_is 70
      beside two_is 72
      beside two_is 74
      beside one_is 76

  -- bytes 77 to 509
  tail_zero : Each (Zero s) spare_offsets → (k : ℕ) → k < 433 → Zero s (77 + k)
  tail_zero (z7 & rest) k h = rw (get_or_up_to 433 (λ k. 77 + k) k 7 h) at (each_get (each_drop rest 8) {d = 7} z7 k)

  tail_is : Each (Zero s) spare_offsets → Part s 77 433 (replicate 433 0)
  tail_is z = record { is = sym (up_to_same 433 _ _ (tail_zero z) ∙ up_to_equal 433 0) }

  pub body_is : 510 ≤ length s → T (marked s) → Each (Zero s) spare_offsets → header (setting_at s) ++ replicate 433 0 ≡ take 510 s
  body_is l m z =
      let all : Part s 0 510 (header (setting_at s) ++ replicate 433 0) = header_is m z beside tail_is z in
      all.is ∙ simp zero-add (sym (take_up_to 510 s 0 l))

-- ---- from values to bytes and back

-- the voltage and the current of an end fit four bytes
end_back : (e : End) → Bounded e → end_at (end_bytes e) 0 ≡ e
end_back e b = rw (u32_bytes e.voltage [] (omega (arith, b.voltage)), u32_bytes e.current [] (omega (arith, b.current)))

pub header_length : (v : Setting) → length (header v) ≡ 77
unfolding header
header_length v = refl

-- a header with any bytes after it
module _ (v : Setting) (rest : List ℕ) where
  pub header_marked : marked (header v ++ rest) ≡ true
  unfolding header
  header_marked = refl

  pub setting_back : Storable v → setting_at (header v ++ rest) ≡ v
  unfolding header setting_at
  setting_back h =
      λ i.
      record {
        ends = v.ends;
        flags = v.flags;
        confirm = v.confirm;
        power = u32_bytes v.power [] (omega (arith, h.power.most)) i;
        e0 = end_back v.e0 (h.bounded 0 (omega arith)) i;
        e1 = end_back v.e1 (h.bounded 1 (omega arith)) i;
        e2 = end_back v.e2 (h.bounded 2 (omega arith)) i;
        e3 = end_back v.e3 (h.bounded 3 (omega arith)) i;
        thresholds =
            record {
              basic = u16_bytes v.thresholds.basic [] (omega (arith, h.basic.most)) i;
              high = u16_bytes v.thresholds.high [] (omega (arith, h.high.most)) i;
              slope1 = u16_bytes v.thresholds.slope1 [] (omega (arith, h.slope1.most)) i;
              slope2 = u16_bytes v.thresholds.slope2 [] (omega (arith, h.slope2.most)) i;
              knee = u16_bytes v.thresholds.knee [] (omega (arith, h.knee.most)) i;
              second = u16_bytes v.thresholds.second [] (omega (arith, h.second.most)) i;
              fifth = u16_bytes v.thresholds.fifth [] (omega (arith, h.fifth.most)) i;
            };
        overcurrent =
            record { pickup = u16_bytes v.overcurrent.pickup [] (omega (arith, h.pickup)) i; curve = v.overcurrent.curve };
      }

  -- and with zeros between
  after_zero : (k : ℕ) → k < 433 → Zero (header v ++ (replicate 433 0 ++ rest)) (77 + k)
  after_zero k h =
      let zs : List ℕ = replicate 433 0 in
      let e : get_or (header v ++ (zs ++ rest)) (77 + k) 0 ≡ get_or (zs ++ rest) k 0 = rw (header_length v) at (get_or-append-add (header v) (zs ++ rest) k 0) in
      e ∙ get_or-append zs rest 0 k (rw length-replicate h) ∙ get_or-replicate 433 k 0 0 h

  pub header_zero : Each (Zero (header v ++ (replicate 433 0 ++ rest))) spare_offsets
  unfolding header
  header_zero = refl & refl & refl & refl & refl & refl & refl & refl & refl & up_to_each 433 (λ k. 77 + k) after_zero
