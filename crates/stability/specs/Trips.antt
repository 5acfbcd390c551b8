-- Latches and counters over lists of calls from a fresh relay (§ Characteristic and trip 5 and 6). Which sets counted is told from the sets filed, and
-- not from the record.
use Rattle.std.specs.Prelude.{◌≡◌, ◌↔◌, Bool, true, cond, min, T, ℤ}
use mathlib.Core.List.{List, [], ◌∷◌, foldl}
use Rattle.setting.specs.declared.Setting.{Setting}
use Rattle.setting.specs.Values.{startable}
use Rattle.matching.specs.Sets.{System}
use Rattle.state.specs.declared.Element.{Element}
use Rattle.state.specs.State.{element_of}
use Rattle.state.specs.Rows.{InARow, row_now}
use Rattle.relay.specs.Record.{fresh}
use Rattle.relay.specs.Calls.{accepted, counting}
use Rattle.relay.specs.Page.{resets}
use Rattle.relay.specs.Lists.{Call, sample, reset, read, write, run}
use Rattle.stability.specs.Lists.{filing, last12, window_of}

-- The trail of a list of calls: the sets filed, in order; and of those since the last reset, newest first, whether the system counted at each.
pub record Trail : Type 0 where
  pub sets : List (List ℤ)
  pub counted : List Bool

-- What a call makes of the latter, with the sets filed by then. An accepted set counts or not by the window of the last twelve, itself the newest; where
-- it answers Filling it does not. A declined set is passed over, and so are reads and writes. A reset starts anew, by call or by page.
abbrev pub counted_since : Setting → System → List (List ℤ) → List Bool → Call → List Bool
counted_since v l ws bs (sample xs) = cond (accepted v xs) (counting v (window_of (last12 ws)) l ∷ bs) bs
counted_since v l ws bs reset = []
counted_since v l ws bs (read offset) = bs
counted_since v l ws bs (write offset byte) = cond (resets offset byte) [] bs

abbrev pub trailing : Setting → System → Trail → Call → Trail
trailing v l t c = record { sets = filing v t.sets c; counted = counted_since v l (filing v t.sets c) t.counted c }

abbrev pub trail : Setting → System → List Call → Trail
trail v l cs = foldl (trailing v l) (record { sets = []; counted = [] }) cs

-- the counter and the latch of a system after a list of calls
abbrev pub element_at : Setting → System → List Call → Element
element_at v l cs = element_of (run (fresh v) cs).trip l

-- After any list of calls a system is latched exactly when, since the last reset or else the start, M accepted sets in a row counted.
unfoldable pub Latched : Type 0
Latched =
    (v : Setting) → T (startable v) → (cs : List Call) (l : System) → ((element_at v l cs).latch ≡ true) ↔ InARow v.confirm (trail v l cs).counted

-- And its counter is the number of accepted sets in a row that counted up to now, since then, at most M.
unfoldable pub Counted : Type 0
Counted = (v : Setting) → T (startable v) → (cs : List Call) (l : System) → (element_at v l cs).count ≡ min v.confirm (row_now (trail v l cs).counted)
