-- Believed: what can happen to the board, one entry each, and what it leaves of the board's view.
use Rattle.std.specs.Prelude.{ℕ, ◌%◌, List, [], ◌∷◌, ◌==◌, if◌then◌else◌, slice_set}
use Rattle.pac_bus.specs.Action.{Action, Write as Written, Output}
use Rattle.pac_latch.specs.Latched.{latched_after_bit, latched_after_vector, latched_after_kick, latched_after_accept}
use Rattle.pac_latch.specs.Latched.{latched_after_reset, latched_after_blank}
use Rattle.pac_map.specs.declared.bus_table.BusPlace.{BusPlace}
use Rattle.pac_map.specs.declared.bus_table.BusPlace.TheVariants.{Tile, Colour, Work, Kick, Latch, Wave, Coordinate}
use Rattle.pac_map.specs.Place.{write_place}
use Rattle.pac_map.specs.View.{View, kept_nibble}

pub data Entry : Type 0 where
  -- a byte written to a place
  Write : (place : BusPlace) (byte : ℕ) → Entry
  -- the interrupt vector, set by OUT to port 0
  Vector : (byte : ℕ) → Entry
  -- the sound sample of this number
  Sample : (number : ℕ) → Entry
  -- a line of the picture of this frame, composed
  Line : (frame line : ℕ) → Entry
  -- the vertical blank that ends this frame
  Blank : (frame : ℕ) → Entry
  -- an interrupt accepted
  Accept : Entry
  -- a reset of the board
  Reset : Entry
  -- the inputs held from now on: the mask's low byte is the port at 5000H, its high byte the port at 5040H
  Hold : (mask : ℕ) → Entry

-- A byte written to a place. RAM and coordinates keep it; a register of the wave generator keeps what it can; a bit of
-- the latch becomes the byte's lowest bit; the watchdog is kicked by any byte. No other place keeps anything.
abbrev pub view_after_write : View → BusPlace → ℕ → View
view_after_write view (Tile cell) byte = record view { tile = slice_set view.tile cell byte }
view_after_write view (Colour cell) byte = record view { colour = slice_set view.colour cell byte }
view_after_write view (Work cell) byte = record view { work = slice_set view.work cell byte }
view_after_write view (Coordinate place) byte = record view { coordinates = slice_set view.coordinates place byte }
view_after_write view (Wave register) byte = record view { registers = slice_set view.registers register (kept_nibble register byte) }
view_after_write view (Latch place) byte = record view { latched = latched_after_bit view.latched place (byte % 2 == 1) }
view_after_write view Kick byte = record view { latched = latched_after_kick view.latched }
view_after_write view _ byte = view

-- The view after an entry. Samples and lines change what the crates above join to it, and nothing here.
abbrev pub view_after : View → Entry → View
view_after view (Write place byte) = view_after_write view place byte
view_after view (Vector byte) = record view { latched = latched_after_vector view.latched byte }
view_after view (Blank frame) = record view { latched = latched_after_blank view.latched }
view_after view Accept = record view { latched = latched_after_accept view.latched }
view_after view Reset = record view { latched = latched_after_reset view.latched }
view_after view (Hold mask) = record view { held = mask }
view_after view (Sample number) = view
view_after view (Line frame line) = view

-- what the board makes of an action of the processor: port 0 holds the interrupt vector, and no other port is
-- wired (this profile)
abbrev pub entries_of : Action → List Entry
entries_of (Written address byte) = Write (write_place address) byte ∷ []
entries_of (Output port byte) = if port == 0 then Vector byte ∷ [] else []
