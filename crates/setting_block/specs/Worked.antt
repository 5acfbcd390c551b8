-- Blocks with faults before byte 77, and what the refusals of E and of a field tell of each (§ What the relay declines; § The setting block 4 and 5),
-- worked out by hand.
use Rattle.std.specs.Prelude.{◌≡◌, refl, List, [], ◌∷◌, ◌++◌, map, ℕ, set, take}
use Rattle.refusal.specs.Refusals.{Told, alone}
use Rattle.setting.specs.Values.{fields, value_rows}
use Rattle.setting.specs.Worked.{yd5}
use Rattle.setting.specs.Verdicts.{told_by, field_at}
use Rattle.setting_block.specs.Layout.{setting_at, few_spares, spare, header}

-- bytes put at their offsets
abbrev pub changed : List ℕ → List (ℕ × ℕ) → List ℕ
changed s [] = s
changed s (x ∷ xs) = changed (set s x.0 x.1) xs

-- what 4 and 5, the first two rows, tell of the setting `yd5`, of two ends, with bytes of its block before 77 changed: 0 where neither applies
abbrev pub told : List (ℕ × ℕ) → Told
told xs =
    let s = changed (header yd5) xs in
    told_by (take 2 (value_rows (fields (setting_at s) ++ map (spare s) few_spares) (setting_at s)))

abbrev pub faults : List (Told × Told)
faults =
    -- a zero byte and S after it; the group of end 0 and a zero byte after it; two zero bytes
    (told ((7, 1) ∷ (11, 1) ∷ []), field_at 7)
    ∷ (told ((22, 1) ∷ (20, 1) ∷ []), field_at 20)
    ∷ (told ((23, 1) ∷ (22, 1) ∷ []), field_at 22)
    -- numbers of an unused end, by any of their bytes
    ∷ (told ((43, 1) ∷ []), field_at 40)
    ∷ (told ((46, 1) ∷ (38, 1) ∷ []), field_at 36)
    ∷ (told ((57, 1) ∷ (58, 1) ∷ []), field_at 57)
    -- a zero byte and the second byte of P after it; the second byte of the last threshold
    ∷ (told ((59, 1) ∷ (61, 255) ∷ []), field_at 59)
    ∷ (told ((73, 1) ∷ []), field_at 72)
    -- the last threshold and the first field; E is refusal 4's
    ∷ (told ((72, 81) ∷ (5, 8) ∷ []), field_at 5)
    ∷ (told ((4, 5) ∷ (5, 8) ∷ []), alone 4)
    -- X at curve 0, by either of its bytes
    ∷ (told ((74, 1) ∷ []), field_at 74)
    ∷ (told ((75, 1) ∷ []), field_at 74)
    -- curve 3: X 199, then 200
    ∷ (told ((76, 3) ∷ (74, 199) ∷ []), field_at 74)
    ∷ (told ((76, 3) ∷ (74, 200) ∷ []), field_at 76)
    -- curve 255 with X 4,001, which is 161 + 15·256; curve 2 with X 4,000; curve 1 with X 0
    ∷ (told ((76, 255) ∷ (74, 161) ∷ (75, 15) ∷ []), field_at 74)
    ∷ (told ((76, 2) ∷ (74, 160) ∷ (75, 15) ∷ []), alone 0)
    ∷ (told ((76, 1) ∷ []), field_at 74)
    ∷ []

pub faults_met : map (λ r. r.0) faults ≡ map (λ r. r.1) faults
unfolding yd5 setting_at header value_rows
faults_met = refl
