-- Lists of calls (§ The three demands 3: each call, declined or not, passes the record that it returns to the next).
use mathlib.Core.List.{List, [], ◌∷◌, foldl}
use Rattle.std.specs.Prelude.{ℕ, ℤ}
use Rattle.relay.specs.declared.Relay.{Relay}
use Rattle.relay.specs.Calls.{sample_relay, reset_relay}
use Rattle.relay.specs.Page.{read_relay, write_relay}

-- A sample call with any list of numbers, a reset, a read of the register page at any offset, or a write there of any value.
pub data Call : Type 0 where
  sample : List ℤ → Call
  reset : Call
  read : (offset : ℕ) → Call
  write : (offset byte : ℕ) → Call

-- the record that a call returns; each call gets the one that the call before returned
abbrev pub after : Relay → Call → Relay
after r (sample xs) = sample_relay r xs
after r reset = reset_relay r
after r (read offset) = read_relay r offset
after r (write offset byte) = write_relay r offset byte

abbrev pub run : Relay → List Call → Relay
run r cs = foldl after r cs

-- one statement of every record of a list, the first and those after refusals included, and one of every call
abbrev pub Every : (OfRecord : Relay → Type 0) (OfCall : Relay → Call → Type 0) → Relay → List Call → Type 0
Every OfRecord OfCall r [] = OfRecord r
Every OfRecord OfCall r (c ∷ cs) = OfRecord r × (OfCall r c × Every OfRecord OfCall (after r c) cs)
