-- Turned current transformers (§ Amplitudes 8): all leads of a bank reversed, over lists of calls from a fresh relay.
use Rattle.std.specs.Prelude.{◌≡◌, List, map, ℕ, T, ℤ, neg_ℤ}
use Rattle.setting.specs.declared.Setting.{Setting}
use Rattle.setting.specs.Values.{startable}
use Rattle.matching.specs.Sets.{System}
use Rattle.amplitude.specs.Amplitude.{Harmonic, order, cycle}
use Rattle.measuring.specs.Window.{series, sums, difference}
use Rattle.relay.specs.declared.Relay.{Relay}
use Rattle.relay.specs.Record.{fresh}
use Rattle.relay.specs.Calls.{accepted, sample_reply, reset_reply}
use Rattle.relay.specs.Page.{read_reply, write_reply}
use Rattle.relay.specs.Lists.{Call, sample, reset, read, write, run}

-- every number negated
abbrev pub negated : List ℤ → List ℤ
negated xs = map neg_ℤ xs

-- a call with the leads turned: every sample of its set is negated, whether the set is accepted or not
abbrev pub turned_call : Call → Call
turned_call (sample xs) = sample (negated xs)
turned_call reset = reset
turned_call (read offset) = read offset
turned_call (write offset byte) = write offset byte

-- a record with every matched number in its window negated, and all else as it was: setting, fill, counters, latches, events, and the overcurrent
-- elements' sums and trips
abbrev pub turned_relay : Relay → Relay
turned_relay r =
    record {
      setting = r.setting;
      window = record { values = negated r.window.values; fill = r.window.fill };
      trip = r.trip;
      events = r.events;
      backup = r.backup;
    }

-- c and s of the twelve numbers u are those of w, negated, for h = 1, 2, 5
pub record CyclesNegated (u w : ℕ → ℤ) : Type 0 where
  pub c : (h : Harmonic) → cycle (order h) 0 u ≡ neg_ℤ (cycle (order h) 0 w)
  pub s : (h : Harmonic) → cycle (order h) 9 u ≡ neg_ℤ (cycle (order h) 9 w)

-- What the record r of a list and the record t of the list with the leads turned have, and the next call on each.
pub record Turned (v : Setting) (r t : Relay) : Type 0 where
  -- the matched numbers in the window are negated; setting, fill, counters, latches, events, sums and trips are the same
  pub relay : t ≡ turned_relay r
  -- c and s are negated, of the sum over the ends, of end 0 minus end 1, and of each end
  pub of_sums : (l : System) → CyclesNegated (sums v.ends t.window.values l) (sums v.ends r.window.values l)
  pub of_difference : (l : System) → CyclesNegated (difference t.window.values l) (difference r.window.values l)
  pub of_end : (z : ℕ) (l : System) → CyclesNegated (series t.window.values z l) (series r.window.values z l)
  -- the same sets are accepted
  pub same_sets : (xs : List ℤ) → accepted v (negated xs) ≡ accepted v xs
  -- and every answer is the same: Filling and its number; D, R (twice the restraint), H2, H5, start, blocked and latched, and the overcurrent trips; or
  -- the refusal
  pub same_answer : (xs : List ℤ) → sample_reply t (negated xs) ≡ sample_reply r xs
  pub same_reset : reset_reply t ≡ reset_reply r
  -- so is every byte of the register page, and what a write answers
  pub same_read : (offset : ℕ) → read_reply t offset ≡ read_reply r offset
  pub same_write : (offset : ℕ) → write_reply t offset ≡ write_reply r offset

-- For every setting that a relay can be started on, and after any list of calls from its fresh relay, refused ones included: negating every sample of
-- every set negates every matched number, c and s, and leaves the answers, counters, latches, events, sums and trips as they were.
unfoldable pub Turning : Type 0
Turning = (v : Setting) → T (startable v) → (cs : List Call) → Turned v (run (fresh v) cs) (run (fresh v) (map turned_call cs))
