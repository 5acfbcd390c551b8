-- Event flags and the interrupt mask over lists of calls from a fresh relay (§ The register page 2 and 3), told from the list of calls and not from the
-- record.
use Rattle.std.specs.Prelude.{◌≡◌, Bool, false, cond, T, ℤ}
use mathlib.Core.List.{List, [], foldl}
use Rattle.bits.specs.declared.Bits.{Bits}
use Rattle.setting.specs.declared.Setting.{Setting}
use Rattle.setting.specs.Values.{startable}
use Rattle.matching.specs.Sets.{System, sys_a, sys_b, sys_c}
use Rattle.state.specs.Rows.{after_sets}
use Rattle.page.specs.declared.Events.{Events}
use Rattle.page.specs.Events.{quiet, new_flags, refused_set, raised, written}
use Rattle.page.specs.Page.{starts_of, shown}
use Rattle.relay.specs.Record.{fresh}
use Rattle.relay.specs.Calls.{accepted}
use Rattle.relay.specs.Lists.{Call, sample, reset, read, write, run}
use Rattle.stability.specs.Lists.{filing, last12, window_of}
use Rattle.stability.specs.Trips.{counted_since}

-- The log of a list of calls: the sets filed, in order; of each system whether it counted at those since the last reset, newest first; and the events.
pub record Log : Type 0 where
  pub sets : List (List ℤ)
  pub counted : System → List Bool
  pub events : Events

-- the systems that start at the last set filed, and those that M sets in a row have latched since the last reset
abbrev pub starts_at : Setting → Log → Bits
starts_at v g = starts_of (shown v (window_of (last12 g.sets)))

abbrev pub latches_at : Setting → Log → Bits
latches_at v g =
    let latch : System → Bool = λ l. (after_sets v.confirm (g.counted l)).latch in record { b0 = latch sys_a; b1 = latch sys_b; b2 = latch sys_c }

-- What a call makes of the events, with the log before it and with its set filed. An accepted set raises what is new, a refused one its flag; a write to
-- byte 3 or 4 changes flags or mask; nothing else does.
abbrev pub events_after : Setting → (before after : Log) → Call → Events
events_after v g h (sample xs) =
    cond (accepted v xs) (raised (new_flags (starts_at v g) (starts_at v h) (latches_at v g) (latches_at v h)) g.events) (raised refused_set g.events)
events_after v g h reset = g.events
events_after v g h (read offset) = g.events
events_after v g h (write offset byte) = written offset byte g.events

-- the log with the sets and counts after a call
abbrev pub counting : Setting → Log → Call → Log
counting v g c =
    let ws = filing v g.sets c in record { sets = ws; counted = λ l. counted_since v l ws (g.counted l) c; events = g.events }

abbrev pub logging : Setting → Log → Call → Log
logging v g c = let h = counting v g c in record { sets = h.sets; counted = h.counted; events = events_after v g h c }

abbrev pub log : Setting → List Call → Log
log v cs = foldl (logging v) (record { sets = []; counted = λ l. []; events = quiet }) cs

-- After any list of calls flags and interrupt mask are those of the log.
unfoldable pub Noted : Type 0
Noted = (v : Setting) → T (startable v) → (cs : List Call) → (run (fresh v) cs).events ≡ (log v cs).events
