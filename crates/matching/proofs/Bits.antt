-- Numbers of the code, each with the whole number that it is and a bound on it. A local of 64 bits is read back from its bits, as it is where the
-- bound fits in 63 bits: `refl` shows that of a literal bound.
use mathlib.Core.Path.{◌≡◌, refl, ◌∙◌}
use mathlib.Core.Bool.{true}
use Prim.Native.Nat.{ℕ, ◌+◌, ◌*◌, ◌^◌}
use native.Mathlib.Omega.{arith}
use lib.Dec.{ltb}
use lib.IntN.{ℤ, pos, neg_ℤ, ◌+ℤ◌, ◌-ℤ◌, ◌*ℤ◌}
use mir.Syntax.{w64}
use mir.Val.{SFits, hbits, to_z, of_z}
use Rattle.integer.specs.Within.{◌within◌}
use Rattle.integer.proofs.Reading.{ints, ◌⇒◌}
use Rattle.integer.proofs.Laws.{within-+, within--, within-*, times_within}
use Rattle.integer.proofs.Machine as machine

-- what is read back of x
abbrev pub kept : ℤ → ℤ
kept x = to_z w64 (of_z w64 x)

-- a bound that fits
abbrev pub Few : ℕ → Type 0
Few n = ltb n (2 ^ hbits w64) ≡ true

-- a is v, within n
pub record Number (a v : ℤ) (n : ℕ) : Type 0 where
  pub is : a ≡ v
  pub size : v within n
  pub few : Few n

pub given : {x : ℤ} {n : ℕ} → x within n → Few n → Number x x n
given h t = record { is = refl; size = h; few = t }

module _ {a u : ℤ} {m : ℕ} (x : Number a u m) where
  pub fits : SFits w64 a
  fits = rw x.is (machine.fits x.size w64 x.few)

  pub read : kept a ≡ u
  read = machine.back fits ∙ x.is

  pub times : (k : ℕ) → Few (k * m) → Number (pos k *ℤ kept a) (pos k *ℤ u) (k * m)
  times k t = record { is = rw read; size = times_within k x.size; few = t }

  pub negated : Number (pos 0 -ℤ kept a) (neg_ℤ u) m
  negated = record { is = rw read (simp ints (omega arith)); size = x.size ⇒ simp ints (omega arith); few = x.few }

module _ {a b u v : ℤ} {m n : ℕ} (x : Number a u m) (y : Number b v n) where
  pub plus : Few (m + n) → Number (kept a +ℤ kept b) (u +ℤ v) (m + n)
  plus t = record { is = rw (read x, read y); size = within-+ x.size y.size; few = t }

  pub minus : Few (m + n) → Number (kept a -ℤ kept b) (u -ℤ v) (m + n)
  minus t = record { is = rw (read x, read y); size = within-- x.size y.size; few = t }

  pub product : Few (m * n) → Number (kept a *ℤ kept b) (u *ℤ v) (m * n)
  product t = record { is = rw (read x, read y); size = within-* x.size y.size; few = t }
