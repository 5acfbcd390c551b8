-- The relay record, and which records are admissible (§ The relay record 1).
use Rattle.std.specs.Prelude.{Bool, List, [], ◌∷◌, leb, pos, replicate}
use Rattle.lists.specs.Tests.{hold, each}
use Rattle.setting.specs.declared.Setting.{Setting}
use Rattle.setting.specs.Values.{startable}
use Rattle.state.specs.State.{per_system, clear, number_within, counters_within}
use Rattle.page.specs.declared.Events.{Events}
use Rattle.page.specs.Events.{quiet, within}
use Rattle.inverse_time.specs.Timers.{idle}
use Rattle.overcurrent.specs.Ends.{per_end, sums_within}
use Rattle.relay.specs.declared.Relay.{Relay}

-- ---- a fresh relay: the values of its setting, an empty window, all else zero or clear

unfoldable pub fresh : Setting → Relay
fresh v =
    record {
      setting = v;
      window = record { values = replicate 144 (pos 0); fill = 0 };
      trip = per_system (λ l. clear);
      events = quiet;
      backup = per_end (λ z. idle);
    }

-- ---- refusal 12: a record is inadmissible where one of these tests fails

abbrev pub admissions : Relay → List Bool
admissions r =
    -- its setting breaks 4 to 7, or 17
    startable r.setting
    -- fill above 12
    ∷ leb r.window.fill 12
    -- a matched number in any place beyond ±800,000
    ∷ each number_within r.window.values
    -- a counter above M
    ∷ hold (counters_within r.setting.confirm r.trip)
    -- flags or interrupt mask above 7
    ∷ hold (within r.events)
    -- an overcurrent sum above 1,000,000,000
    ∷ hold (sums_within r.backup)
    ∷ []

unfoldable pub admissible : Relay → Bool
admissible r = hold (admissions r)

-- ---- the record with other events, and all else as it was

abbrev pub with_events : Relay → Events → Relay
with_events r e = record { setting = r.setting; window = r.window; trip = r.trip; events = e; backup = r.backup }
