-- Believed: what a history says of the output latch, the interrupt request and the watchdog (Namco Pac-Man service
-- schematics; the order at a blank and what a reset leaves are this profile's).
use Rattle.std.specs.Prelude.{ℕ, suc, ◌%◌, List, [], ◌∷◌, ◌==◌, Bool, false, ◌||◌, nat_le, Option, Some, None, unwrap_or, if◌then◌else◌}
use Rattle.pac_map.specs.Latched.{is_latch_bit_set, latch_place, withdraws, watchdog_limit}
use Rattle.pac_map.specs.declared.bus_table.BusPlace.{BusPlace}
use Rattle.pac_map.specs.declared.bus_table.BusPlace.TheVariants.{Latch, Kick}
use Rattle.pac_map.specs.View.{View}
use Rattle.pac_map.specs.Entry.{Entry, Write, Vector, Blank, Accept, Reset}

-- the bit that a byte writes to the latch: its lowest
abbrev pub lowest : ℕ → Bool
lowest byte = byte % 2 == 1

-- whether a place is this bit of the latch
abbrev pub is_latch : ℕ → BusPlace → Bool
is_latch place (Latch other) = latch_place other == latch_place place
is_latch place _ = false

-- a bit of the latch: the lowest of the byte last written to it since the last reset, and 0 after a reset without one
abbrev pub last_bit : ℕ → List Entry → Option Bool
last_bit place [] = None
last_bit place (Reset ∷ older) = Some false
last_bit place (Write to byte ∷ older) = if is_latch place to then Some (lowest byte) else last_bit place older
last_bit place (entry ∷ older) = last_bit place older

abbrev pub bit_at : View → List Entry → ℕ → Bool
bit_at start entries place = unwrap_or (last_bit place entries) (is_latch_bit_set start.latched place)

-- the interrupt vector: the one last set
abbrev pub last_vector : List Entry → Option ℕ
last_vector [] = None
last_vector (Vector byte ∷ older) = Some byte
last_vector (entry ∷ older) = last_vector older

-- whether a write takes the request back: that of a 0 to the latch's interrupt enable does
abbrev pub takes_back : BusPlace → ℕ → Bool
takes_back (Latch place) byte = withdraws place (lowest byte)
takes_back _ byte = false

-- Whether a request stands: since the last acceptance, the last reset and the last 0 written to interrupt enable there was a
-- blank at which interrupt enable was 1.
abbrev pub is_requested : View → List Entry → Bool
is_requested start [] = start.latched.request
is_requested start (Accept ∷ older) = false
is_requested start (Reset ∷ older) = false
is_requested start (Write place byte ∷ older) = if takes_back place byte then false else is_requested start older
is_requested start (Blank frame ∷ older) = is_requested start older || bit_at start older 0
is_requested start (entry ∷ older) = is_requested start older

-- the vector where a request stands
abbrev pub history_request : View → List Entry → Option ℕ
history_request start entries = if is_requested start entries then Some (unwrap_or (last_vector entries) start.latched.vector) else None

-- the blanks since the last kick or reset, after so many at the start
abbrev pub blanks_since : ℕ → List Entry → ℕ
blanks_since first [] = first
blanks_since first (Reset ∷ older) = 0
blanks_since first (Write Kick byte ∷ older) = 0
blanks_since first (Blank frame ∷ older) = suc (blanks_since first older)
blanks_since first (entry ∷ older) = blanks_since first older

-- whether the watchdog resets the board: it has met its limit of blanks
abbrev pub is_reset_due : View → List Entry → Bool
is_reset_due start entries = nat_le watchdog_limit (blanks_since start.latched.count entries)
