-- Healthy banks at heavy through-faults, beside demand 3: their sets are accepted and healthy, so the demand speaks of them. The first carries no
-- neutral current; the others do.
use Rattle.std.specs.Prelude.{List, [], ◌∷◌, ◌++◌, ℕ, T, ℤ, pos, replicate}
use Rattle.integer.specs.Within.{neg}
use Rattle.setting.specs.declared.Setting.{Setting}
use Rattle.setting.specs.Values.{startable}
use Rattle.setting.specs.Worked.{rated, unused, off, two_ends, yd5}
use Rattle.matching.specs.Bank.{Healthy}
use Rattle.matching.specs.Neutral.{WithoutNeutral}
use Rattle.relay.specs.Calls.{accepted}

-- A bank of groups 0 and 5 carries twenty times reference current on limb A, and zero sequence of five times rated current at the end that filters it out: the
-- samples A, B, C of the two ends, and zero at the others.
unfoldable pub through : List ℤ
through = (pos 18996 ∷ neg 1998 ∷ neg 1998 ∷ []) ++ (pos 16667 ∷ pos 0 ∷ neg 16667 ∷ []) ++ replicate 6 (pos 0)

-- A relay can be started on the setting; the set is accepted and is that of a healthy bank.
unfoldable pub ThroughFault : Type 0
ThroughFault = T (startable yd5) × T (accepted yd5 through) × Healthy yd5 through

-- ---- neutral current (§ A healthy bank 3 and 5)

-- An autotransformer of 100 MVA (source 001, 3.4.2): three ends at one voltage, 220 kV, the third its neutral with a current transformer on each phase;
-- groups 0, all filters off, no blocking.
unfoldable pub autotransformer : Setting
autotransformer =
    record {
      ends = 3;
      flags = 0;
      confirm = 1;
      power = 1000;
      e0 = rated 2200 300;
      e1 = rated 2200 600;
      e2 = rated 2200 400;
      e3 = unused;
      thresholds = record { basic = 200; high = 8000; slope1 = 30; slope2 = 70; knee = 4000; second = 15; fifth = 30 };
      overcurrent = off;
    }

-- Phase A is earthed beyond end 1: fifteen times reference current leaves there, eight come in at end 0 and seven at the neutral.
unfoldable pub earthed : List ℤ
earthed = (pos 6998 ∷ neg 875 ∷ neg 875 ∷ []) ++ (neg 6561 ∷ pos 219 ∷ pos 219 ∷ []) ++ (pos 4593 ∷ pos 328 ∷ pos 328 ∷ []) ++ replicate 3 (pos 0)

-- The two ends of `yd5`, groups 0 and 5, with both filters off.
unfoldable pub odd_bank : Setting
odd_bank = two_ends 400 (rated 1100 300) (record { voltage = 200; current = 1200; group = 5; filter = 0 })

-- Twenty times reference current on limb A, fifteen of them back through the neutral.
unfoldable pub earthed_odd : List ℤ
earthed_odd = (pos 13996 ∷ neg 2799 ∷ neg 700 ∷ []) ++ (pos 8522 ∷ neg 6478 ∷ neg 16478 ∷ []) ++ replicate 6 (pos 0)

-- A relay can be started on the setting; the set is accepted and is that of a healthy bank, and was not before card 8.
pub record NewlyHealthy (v : Setting) (xs : List ℤ) : Type 0 where
  pub starts : T (startable v)
  pub taken : T (accepted v xs)
  pub now : Healthy v xs
  pub before : WithoutNeutral v xs → ⊥

unfoldable pub EarthFaults : Type 0
EarthFaults = NewlyHealthy autotransformer earthed × NewlyHealthy odd_bank earthed_odd
