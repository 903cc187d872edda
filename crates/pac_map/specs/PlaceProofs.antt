-- For proofs: what proofs say of the definitions of Place.antt.
use Rattle.std.specs.Prelude.{ℕ, ◌<◌}
use Rattle.pac_map.specs.declared.bus_table.BusPlace.{BusPlace}
use Rattle.pac_map.specs.declared.bus_table.BusPlace.TheVariants.{Program, Tile, Colour, Work, Latch, Wave, Coordinate}
use Rattle.pac_roms.specs.Parts.{program_size}
use Rattle.pac_map.specs.Place.{ram_size, registers_size, coordinates_size}

abbrev pub latch_size : ℕ
latch_size = 8

-- the cell, bit, register or byte lies in its place
abbrev pub IsPlaceInRange : BusPlace → Type 0
IsPlaceInRange (Program cell) = cell < program_size
IsPlaceInRange (Tile cell) = cell < ram_size
IsPlaceInRange (Colour cell) = cell < ram_size
IsPlaceInRange (Work cell) = cell < ram_size
IsPlaceInRange (Latch bit) = bit < latch_size
IsPlaceInRange (Wave register) = register < registers_size
IsPlaceInRange (Coordinate byte) = byte < coordinates_size
IsPlaceInRange _ = Unit {0}
