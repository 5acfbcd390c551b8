-- Demand 2 over lists of calls from a fresh relay (§ The three demands 2).
use Rattle.std.specs.Prelude.{◌≡◌, cond, ℕ, ◌*◌, ◌-◌, T, ℤ, pos, length, get_or, drop, replicate}
use mathlib.Core.List.{List, [], ◌∷◌, ◌++◌, flatten, foldl}
use Rattle.refusal.specs.Refusals.{gives, first_of, first_refusal}
use Rattle.setting.specs.declared.Setting.{Setting}
use Rattle.setting.specs.Values.{startable}
use Rattle.matching.specs.Sets.{numbers}
use Rattle.state.specs.declared.Window.{Window}
use Rattle.relay.specs.Record.{fresh}
use Rattle.page.specs.Page.{page, shown}
use Rattle.relay.specs.Calls.{set_rows, accepted, reply_now, sample_reply, reset_reply}
use Rattle.relay.specs.Page.{beyond, fixed, read_reply, write_reply}
use Rattle.relay.specs.Lists.{Call, sample, reset, read, write, run}

-- The accepted sets of a list, by their matched numbers, in order: those so far, and what a call adds.
abbrev pub filing : Setting → List (List ℤ) → Call → List (List ℤ)
filing v ws (sample xs) = cond (accepted v xs) (ws ++ (numbers v xs ∷ [])) ws
filing v ws reset = ws
filing v ws (read offset) = ws
filing v ws (write offset byte) = ws

abbrev pub filed : Setting → List Call → List (List ℤ)
filed v cs = foldl (filing v) [] cs

-- the last twelve of them, or all where there are fewer
unfoldable pub last12 : List (List ℤ) → List (List ℤ)
last12 l = drop (length l - 12) l

-- the window that holds those sets, oldest first, and zero in the places that are left
unfoldable pub window_of : List (List ℤ) → Window
window_of ws = record { values = flatten ws ++ replicate (144 - 12 * length ws) (pos 0); fill = length ws }

-- After any list of calls the record holds the setting that it was started on.
unfoldable pub SettingKept : Type 0
SettingKept = (v : Setting) → T (startable v) → (cs : List Call) → (run (fresh v) cs).setting ≡ v

-- After any list of calls the window is the one of the last accepted sets, twelve at most.
unfoldable pub WindowFiled : Type 0
WindowFiled = (v : Setting) → T (startable v) → (cs : List Call) → (run (fresh v) cs).window ≡ window_of (last12 (filed v cs))

-- And the next set is declined by the first of 14, 10, 11 that applies, and so never by 12; or it is answered by the definitions from that window with the
-- set filed: Filling with the number held, or Measured.
unfoldable pub Answered : Type 0
Answered =
    (v : Setting) → T (startable v) → (cs : List Call) (xs : List ℤ) →
    sample_reply (run (fresh v) cs) xs ≡ first_of (set_rows v xs) (reply_now (run (fresh v) cs) (window_of (last12 (filed v cs ++ (numbers v xs ∷ [])))))

-- And the next reset is accepted.
unfoldable pub ResetAccepted : Type 0
ResetAccepted = (v : Setting) → T (startable v) → (cs : List Call) → reset_reply (run (fresh v) cs) ≡ gives tt

-- And the next read is declined by 15 alone, or gives the byte of the page whose masks and currents are those of that window (§ The register page 1).
unfoldable pub ReadAnswered : Type 0
ReadAnswered =
    (v : Setting) → T (startable v) → (cs : List Call) (offset : ℕ) →
    let r = run (fresh v) cs in
    read_reply r offset ≡ first_of (beyond offset ∷ []) (get_or (page r.trip (shown v (window_of (last12 (filed v cs)))) r.events) offset 0)

-- And the next write is declined by the first of 15, 16 that applies, or done.
unfoldable pub WriteAnswered : Type 0
WriteAnswered =
    (v : Setting) → T (startable v) → (cs : List Call) (offset : ℕ) →
    write_reply (run (fresh v) cs) offset ≡ first_refusal (beyond offset ∷ fixed offset ∷ [])
