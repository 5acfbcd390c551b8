-- Reading and writing the register page, a byte at a time (§ The register page, § The order of refusals 8 and 9).
use Rattle.std.specs.Prelude.{Bool, not, ◌&&◌, ◌||◌, cond, List, [], ◌∷◌, ℕ, leb, eqb, get_or}
use Rattle.refusal.specs.Refusals.{Outcome, by_outcome, Row, ◌when◌, first_of, first_refusal}
use Rattle.page.specs.Events.{written as written_events}
use Rattle.page.specs.Page.{page, shown}
use Rattle.relay.specs.declared.Relay.{Relay}
use Rattle.relay.specs.declared.Returned.{Returned}
use Rattle.relay.specs.Record.{admissible, with_events}
use Rattle.relay.specs.Calls.{Gives, cleared}

-- the page of a record: the latched mask is the record's; other masks and currents are those of the last accepted set, zero unless the window is full
abbrev pub page_of : Relay → List ℕ
page_of r = page r.trip (shown r.setting r.window) r.events

-- 15: a read or write at 64 or beyond
abbrev pub beyond : ℕ → Row
beyond offset = 15 when leb 64 offset

-- 16: a write to another byte than 3, 4, 7
abbrev pub fixed : ℕ → Row
fixed offset = 16 when not (eqb offset 3 || (eqb offset 4 || eqb offset 7))

-- then 12, an inadmissible record, at any read or write
abbrev pub inadmissible : Relay → Row
inadmissible r = 12 when not (admissible r)

-- ---- reading

unfoldable pub read_rows : Relay → ℕ → List Row
read_rows r offset = beyond offset ∷ inadmissible r ∷ []

-- the byte, or the refusal; the record stays as it is
abbrev pub read_reply : Relay → ℕ → Outcome ℕ
read_reply r offset = first_of (read_rows r offset) (get_or (page_of r) offset 0)

abbrev pub read_relay : Relay → ℕ → Relay
read_relay r offset = r

abbrev pub Reads : Relay → (offset : ℕ) → Returned ℕ → Type 0
Reads r offset s = Gives (read_reply r offset) (read_relay r offset) s

-- ---- writing

unfoldable pub write_rows : Relay → ℕ → List Row
write_rows r offset = beyond offset ∷ fixed offset ∷ inadmissible r ∷ []

-- writing 1 to byte 7 resets the relay, and any other value there does nothing
abbrev pub resets : (offset byte : ℕ) → Bool
resets offset byte = eqb offset 7 && eqb byte 1

-- what is left: a write to byte 3 or 4 changes flags or interrupt mask alone
unfoldable pub written : Relay → (offset byte : ℕ) → Relay
written r offset byte = cond (resets offset byte) (cleared r) (with_events r (written_events offset byte r.events))

abbrev pub write_reply : Relay → ℕ → Outcome (Unit {0})
write_reply r offset = first_refusal (write_rows r offset)

abbrev pub write_relay : Relay → (offset byte : ℕ) → Relay
write_relay r offset byte = by_outcome (write_reply r offset) (λ refusal. r) (λ done. written r offset byte)

abbrev pub Writes : Relay → (offset byte : ℕ) → Returned (Unit {0}) → Type 0
Writes r offset byte s = Gives (write_reply r offset) (write_relay r offset byte) s
