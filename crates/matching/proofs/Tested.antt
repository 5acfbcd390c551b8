-- A healthy bank by given numbers: each condition of `Healthy` is a test that computes, so that an example is shown by one `tt`.
use mathlib.Core.Bool.{Bool, true, cond}
use mathlib.Core.List.{List, [], ◌∷◌}
use Prim.Native.Nat.{ℕ, ◌*◌}
use native.Mathlib.Omega.{arith}
use lib.Dec.{T, leb, leb→le}
use borrow.Author.Tests.{le-leb}
use lib.IntN.{ℤ, pos, nat_abs, ◌*ℤ◌, ◌-ℤ◌}
use Rattle.integer.specs.Within.{eq_z}
use Rattle.integer.specs.Sum.{sum}
use Rattle.integer.proofs.Laws.{eq_z→≡}
use Rattle.lists.specs.Tests.{hold, every}
use Rattle.lists.proofs.TestLaws.{hold_at, every_at, when, unless}
use Rattle.setting.specs.declared.Setting.{Setting}
use Rattle.setting.specs.Values.{end_of, factor_top, factor_under}
use Rattle.matching.specs.declared.Three.{Three}
use Rattle.matching.specs.Matching.{Quotient, even, sum3}
use Rattle.matching.specs.Sets.{System, sys_a, sys_b, sys_c, system, seen, phases, filtered}
use Rattle.matching.specs.Bank.{ideal_current, Healthy}

-- a test at each of the three systems
abbrev systems : (System → Bool) → Bool
systems t = every 3 (λ y. t (system y))

systems_at : (t : System → Bool) → T (systems t) → (l : System) → T (t l)
systems_at t h sys_a = every_at 3 (λ y. t (system y)) h 0 (omega arith)
systems_at t h sys_b = every_at 3 (λ y. t (system y)) h 1 (omega arith)
systems_at t h sys_c = every_at 3 (λ y. t (system y)) h 2 (omega arith)

-- the currents w of the limbs and the common numbers of the ends
module _ (v : Setting) (w : ℕ → Three) (common : ℕ → ℤ) (xs : List ℤ) where
  -- the ideal current of a phase, and twice the error of its sample
  abbrev ideal_at : ℕ → System → Quotient
  ideal_at z l = let e = end_of v z in ideal_current (even e.group) (filtered e) e.group (factor_top e) (factor_under v) (seen l (w z)) (common z)

  abbrev error : ℕ → System → ℤ
  error z l = let i = ideal_at z l in pos 2 *ℤ (pos (1000 * i.under) *ℤ (seen l (phases xs z)).p -ℤ i.top)

  -- what is tested of a limb, of an end in use, of one of its samples, and of an end that is not in use
  abbrev over_ends : System → Bool
  over_ends l = eq_z (sum v.ends (λ z. (seen l (w z)).p)) (pos 0)

  abbrev over_limbs : ℕ → Bool
  over_limbs z = cond (filtered (end_of v z)) (eq_z (sum3 (w z)) (pos 0)) true

  abbrev unfiltered : ℕ → Bool
  unfiltered z = cond (filtered (end_of v z)) true (eq_z (common z) (pos 0))

  abbrev near : ℕ → System → Bool
  near z l = leb (nat_abs (error z l)) (1000 * (ideal_at z l).under)

  abbrev other : ℕ → System → Bool
  other z l = eq_z (seen l (phases xs z)).p (pos 0)

  abbrev others : ℕ → Bool
  others z = cond (leb v.ends z) (systems (other z)) true

  unfoldable pub facts : List Bool
  facts =
      systems over_ends
      ∷ every v.ends over_limbs
      ∷ every v.ends unfiltered
      ∷ every v.ends (λ z. systems (near z))
      ∷ every 4 others
      ∷ []

  pub tested : T (hold facts) → Healthy v xs
  unfolding facts
  tested h =
      let at = hold_at facts h in
      record {
        w = w;
        over_ends = λ l. eq_z→≡ _ _ (systems_at over_ends (at 0) l);
        over_limbs = λ z k e. eq_z→≡ _ _ (when _ (eq_z (sum3 (w z)) (pos 0)) (every_at v.ends over_limbs (at 1) z k) e);
        common = common;
        unfiltered = λ z k e. eq_z→≡ _ _ (unless _ (eq_z (common z) (pos 0)) (every_at v.ends unfiltered (at 2) z k) e);
        near = λ z k l. record { size = leb→le _ _ (systems_at (near z) (every_at v.ends (λ z. systems (near z)) (at 3) z k) l) };
        others = λ z k m l. eq_z→≡ _ _ (systems_at (other z) (when _ (systems (other z)) (every_at 4 others (at 4) z m) (le-leb _ _ k)) l);
      }
