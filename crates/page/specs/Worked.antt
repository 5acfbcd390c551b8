-- A page, and what is made of the events, worked out by hand (§ The register page); and that every page has 64 bytes.
use Rattle.std.specs.Prelude.{◌≡◌, refl, Bool, true, false, ℕ, length, replicate}
use mathlib.Core.List.{List, [], ◌∷◌, map, flatten}
use Rattle.bits.specs.declared.Bits.{Bits}
use Rattle.bits.specs.Bits.{bits_of, mask_of}
use Rattle.measuring.specs.declared.Reading.{Reading}
use Rattle.systems.specs.declared.Systems.{Systems}
use Rattle.state.specs.declared.Element.{Element}
use Rattle.page.specs.declared.Events.{Events}
use Rattle.page.specs.Events.{new, new_flags, refused_set, raised, lowered, masked, written, interrupt}
use Rattle.page.specs.Page.{page}

pub page_long : (t : Systems Element) (m : Systems Reading) (e : Events) → length (page t m e) ≡ 64
unfolding page flatten
page_long t m e = refl

-- ---- systems 1 and 3 latched, 1 and 2 started, 2 blocked; flags 5 under mask 6

abbrev pub latched : Bool → Element
latched b = record { count = 0; latch = b }

abbrev pub reading : (d r : ℕ) (start blocked : Bool) → Reading
reading d r s b = record { d = d; r = r; h2 = 9; h5 = 9; start = s; blocked = b }

abbrev pub trip : Systems Element
trip = record { a = latched true; b = latched false; c = latched true }

abbrev pub measured : Systems Reading
measured = record { a = reading 1000 70000 true false; b = reading 0 255 true true; c = reading 65536 16909060 false false }

pub page_met :
    page trip measured (record { flags = 5; mask = 6 })
    ≡ 5 ∷ 3 ∷ 2 ∷ 5 ∷ 6 ∷ 1 ∷ 0 ∷ 0
    ∷ 232 ∷ 3 ∷ 0 ∷ 0
    ∷ 112 ∷ 17 ∷ 1 ∷ 0
    ∷ 0 ∷ 0 ∷ 0 ∷ 0
    ∷ 255 ∷ 0 ∷ 0 ∷ 0
    ∷ 0 ∷ 0 ∷ 1 ∷ 0
    ∷ 4 ∷ 3 ∷ 2 ∷ 1
    ∷ replicate 32 0
unfolding page flatten mask_of bits_of interrupt
page_met = refl

-- ---- flags and mask: what the definitions give, and the number to meet

abbrev pub three : (a b c : Bool) → Bits
three a b c = record { b0 = a; b1 = b; b2 = c }

abbrev pub flags : ℕ → Events
flags n = record { flags = n; mask = 6 }

abbrev pub events : List (ℕ × ℕ)
events =
    -- raised: a start, a trip, a refused set; one that is raised already
    ((raised (three true false false) (flags 4)).flags, 5)
    ∷ ((raised (three true true false) (flags 0)).flags, 3)
    ∷ ((raised (three false false true) (flags 3)).flags, 7)
    ∷ ((raised (three false true false) (flags 7)).flags, 7)
    -- written to byte 3: 0, 1, 2, 4, 5, 7, and a value whose low three bits are 2
    ∷ ((written 3 0 (flags 7)).flags, 7)
    ∷ ((written 3 1 (flags 7)).flags, 6)
    ∷ ((written 3 2 (flags 7)).flags, 5)
    ∷ ((written 3 4 (flags 3)).flags, 3)
    ∷ ((written 3 7 (flags 7)).flags, 0)
    ∷ ((written 3 250 (flags 7)).flags, 5)
    -- written to byte 4, which leaves the flags, and to byte 7, which leaves both
    ∷ ((written 4 255 (flags 7)).mask, 7)
    ∷ ((written 4 8 (flags 7)).mask, 0)
    ∷ ((written 4 0 (flags 7)).flags, 7)
    ∷ ((written 7 1 (flags 7)).mask, 6)
    -- byte 5 under mask 6
    ∷ (interrupt (flags 0), 0)
    ∷ (interrupt (flags 1), 0)
    ∷ (interrupt (flags 2), 1)
    ∷ (interrupt (flags 5), 1)
    ∷ []

pub events_met : map (λ r. r.0) events ≡ map (λ r. r.1) events
unfolding raised lowered masked interrupt mask_of bits_of
events_met = refl

-- new where a bit was 0 and is 1: not where it goes on, and not where it goes
pub new_met :
    new (three true false false) (three true false false)
    ∷ new (three true false false) (three true true false)
    ∷ new (three true true false) (three false true false)
    ∷ new (three false false false) (three false false true)
    ∷ []
    ≡ false ∷ true ∷ false ∷ true ∷ []
new_met = refl

-- the flags of a new start, a new trip, both, a start and a trip that go on, and a refused set
pub flags_met :
    let none = three false false false in
    let one = three false true false in
    mask_of (new_flags none one none none)
    ∷ mask_of (new_flags one one none one)
    ∷ mask_of (new_flags none one none one)
    ∷ mask_of (new_flags one one one one)
    ∷ mask_of refused_set
    ∷ []
    ≡ 1 ∷ 2 ∷ 3 ∷ 0 ∷ 4 ∷ []
unfolding mask_of
flags_met = refl
