-- Events stay within their bounds, whatever is raised or written; with no flag raised they stay as they are; and a write raises none.
use mathlib.Core.Path.{◌≡◌, refl, ap, ◌∙◌}
use mathlib.Core.Bool.{Bool, true, false, not, ◌&&◌, ◌||◌, cond, true≢false}
use Prim.Native.Nat.{ℕ, ◌%◌}
use native.Mathlib.Omega.{arith}
use lib.Dec.{T, eqb, le→leb, leb→le}
use Rattle.lists.specs.Tests.{hold, none, ◌&◌}
use Rattle.lists.proofs.TestLaws.{hold_at, hold_of}
use Rattle.bits.specs.declared.Bits.{Bits}
use Rattle.bits.specs.Bits.{bits_of, mask_of, either, without, some}
use Rattle.bits.proofs.MaskLaws.{mask-≤, bits_mask, mask_bits}
use Rattle.page.specs.declared.Events.{Events}
use Rattle.page.specs.Events.{within, new, raised, lowered, masked, written}

abbrev pub no_bit : Bits
no_bit = record { b0 = false; b1 = false; b2 = false }

-- none of them set
pub none_set : (b : Bits) → some b ≡ false → b ≡ no_bit
none_set b h = by b.b0 b.b1 b.b2 h
  where
    by : (x y z : Bool) → (x || (y || z)) ≡ false → ◌≡◌ {A = Bits} (record { b0 = x; b1 = y; b2 = z }) no_bit
    by true y z e = absurd (true≢false e)
    by false true z e = absurd (true≢false e)
    by false false true e = absurd (true≢false e)
    by false false false e = refl

-- what is as it was is not new
pub not_new : (b : Bits) → new b b ≡ false
not_new b = by b.b0 b.b1 b.b2
  where
    neither : (x : Bool) → (x && not x) ≡ false
    neither true = refl
    neither false = refl

    by : (x y z : Bool) → ((x && not x) || ((y && not y) || (z && not z))) ≡ false
    by x y z = rw (neither x, neither y, neither z)

-- no bit more
no_more : (b : Bits) → either b no_bit ≡ b
no_more b = by b.b0 b.b1 b.b2
  where
    same : (x : Bool) → (x || false) ≡ x
    same true = refl
    same false = refl

    by : (x y z : Bool) → ◌≡◌ {A = Bits} (record { b0 = x || false; b1 = y || false; b2 = z || false }) (record { b0 = x; b1 = y; b2 = z })
    by x y z = rw (same x, same y, same z)

module _ (e : Events) (h : T (hold (within e))) where
  pub raised_within : (b : Bits) → T (hold (within (raised b e)))
  unfolding raised
  raised_within b = hold_of {bs = within (raised b e)} (le→leb _ _ (mask-≤ _) & hold_at (within e) h 1 & none)

  pub written_within : (offset byte : ℕ) → T (hold (within (written offset byte e)))
  unfolding lowered masked
  written_within offset byte = by (eqb offset 3) (eqb offset 4)
    where
      by : (a b : Bool) → T (hold (within (cond a (lowered byte e) (cond b (masked byte e) e))))
      by true b = hold_of {bs = within (lowered byte e)} (le→leb _ _ (mask-≤ _) & hold_at (within e) h 1 & none)
      by false true = hold_of {bs = within (masked byte e)} (hold_at (within e) h 0 & le→leb (byte % 8) 7 (omega arith) & none)
      by false false = h

  -- no flag raised
  pub raised_none : raised no_bit e ≡ e
  unfolding raised
  raised_none = ap (λ (n : ℕ). record { flags = n; mask = e.mask }) (ap mask_of (no_more (bits_of e.flags)) ∙ mask_bits e.flags (leb→le _ _ (hold_at (within e) h 0)))

-- whether the first flag is raised again where it is raised does not matter
pub raised_alike : (e : Events) (b c : Bits) → ((bits_of e.flags).b0 || b.b0) ≡ ((bits_of e.flags).b0 || c.b0) → b.b1 ≡ c.b1 → b.b2 ≡ c.b2 →
    raised b e ≡ raised c e
unfolding raised
raised_alike e b c p q s = rw (p, q, s)

-- the flags after some are raised
pub raised_flags : (b : Bits) (e : Events) → bits_of (raised b e).flags ≡ either (bits_of e.flags) b
unfolding raised
raised_flags b e = bits_mask (either (bits_of e.flags) b)

-- no bit less
pub without_none : (b : Bits) → b ≡ without b no_bit
without_none b = λ i. record { b0 = same b.b0 i; b1 = same b.b1 i; b2 = same b.b2 i }
  where
    same : (x : Bool) → x ≡ (x && true)
    same true = refl
    same false = refl

-- flags of which some are cleared, and none is raised
pub record Lower (e n : Events) : Type 0 where
  pub by : Bits
  pub is : bits_of n.flags ≡ without (bits_of e.flags) by

pub written_lower : (offset byte : ℕ) (e : Events) → Lower e (written offset byte e)
unfolding lowered masked
written_lower offset byte e = by (eqb offset 3) (eqb offset 4)
  where
    by : (a b : Bool) → Lower e (cond a (lowered byte e) (cond b (masked byte e) e))
    by true b = record { by = bits_of byte; is = bits_mask (without (bits_of e.flags) (bits_of byte)) }
    by false true = record { by = no_bit; is = without_none (bits_of e.flags) }
    by false false = record { by = no_bit; is = without_none (bits_of e.flags) }
