-- A window negated (card 1): the numbers that amplitudes are taken of are negated, and what is measured is the same.
use mathlib.Core.Path.{◌≡◌, refl, ◌∙◌}
use mathlib.Core.List.{List, map}
use Prim.Native.Nat.{ℕ, zero, suc, ◌+◌, ◌*◌}
use native.Mathlib.Omega.{arith}
use lib.IntN.{ℤ, pos, neg_ℤ}
use lib.ListN.{get_or-map}
use Rattle.integer.proofs.Reading.{ints}
use Rattle.integer.proofs.SumLaws.{sum_same, sum_neg}
use Rattle.setting.specs.declared.Setting.{Setting}
use Rattle.matching.specs.Sets.{System, sys_a, sys_b, sys_c, index}
use Rattle.amplitude.specs.Amplitude.{amplitude}
use Rattle.amplitude.proofs.Negated.{amplitude_negated}
use Rattle.measuring.specs.Window.{at, series, sums, difference}
use Rattle.measuring.specs.Measuring.{sumℕ, twice_restraint, harmonics, holding, blocked, reading_of}

module _ (win : List ℤ) where
  pub series_negated : (z : ℕ) (l : System) (k : ℕ) → series (map neg_ℤ win) z l k ≡ neg_ℤ (series win z l k)
  series_negated z l k = get_or-map neg_ℤ win (12 * k + (3 * z + index l)) (pos 0)

  pub sums_negated : (E : ℕ) (l : System) (k : ℕ) → sums E (map neg_ℤ win) l k ≡ neg_ℤ (sums E win l k)
  sums_negated E l k =
      sum_same (λ z. at (map neg_ℤ win) k z l) (λ z. neg_ℤ (at win k z l)) E (λ z h. series_negated z l k) ∙ sum_neg (λ z. at win k z l) E

  pub difference_negated : (l : System) (k : ℕ) → difference (map neg_ℤ win) l k ≡ neg_ℤ (difference win l k)
  difference_negated l k = rw (series_negated 0 l k, series_negated 1 l k) (simp ints (omega arith))

  pub end_same : (z : ℕ) (l : System) → amplitude 1 (series (map neg_ℤ win) z l) ≡ amplitude 1 (series win z l)
  end_same z l = amplitude_negated (series (map neg_ℤ win) z l) (series win z l) (λ k m. series_negated z l k) 1

module _ (v : Setting) (win : List ℤ) where
  of_sums_lem : (h : ℕ) (l : System) → amplitude h (sums v.ends (map neg_ℤ win) l) ≡ amplitude h (sums v.ends win l)
  of_sums_lem h l = amplitude_negated (sums v.ends (map neg_ℤ win) l) (sums v.ends win l) (λ k m. sums_negated win v.ends l k) h

  over_ends_lem : (n : ℕ) (l : System) → sumℕ n (λ z. amplitude 1 (series (map neg_ℤ win) z l)) ≡ sumℕ n (λ z. amplitude 1 (series win z l))
  over_ends_lem zero l = refl
  over_ends_lem (suc n) l = rw (over_ends_lem n l, end_same win n l)

  restraint_same : (l : System) → twice_restraint v.ends (map neg_ℤ win) l ≡ twice_restraint v.ends win l
  unfolding twice_restraint
  restraint_same l =
      rw (over_ends_lem v.ends l, amplitude_negated (difference (map neg_ℤ win) l) (difference win l) (λ k m. difference_negated win l k) 1)

  harmonics_same : (l : System) → harmonics v (map neg_ℤ win) l ≡ harmonics v win l
  unfolding harmonics
  harmonics_same l = rw (of_sums_lem 1 l, of_sums_lem 2 l, of_sums_lem 5 l)

  holding_same : (l : System) → holding v (map neg_ℤ win) l ≡ holding v win l
  unfolding holding
  holding_same l = rw (of_sums_lem 1 l, of_sums_lem 2 l, of_sums_lem 5 l)

  pub reading_same : (l : System) → reading_of v (map neg_ℤ win) l ≡ reading_of v win l
  unfolding reading_of blocked
  reading_same l =
      rw (of_sums_lem 1 l, of_sums_lem 2 l, of_sums_lem 5 l, restraint_same l, harmonics_same l, holding_same sys_a, holding_same sys_b, holding_same sys_c)
