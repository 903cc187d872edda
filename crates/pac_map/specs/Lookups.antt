-- Believed: what the places of the bus give, over what a read asks of the board, however that is kept (Namco Pac-Man
-- service schematics; what this profile adds is named).
use Rattle.std.specs.Prelude.{ℕ}
use Rattle.pac_inputs.specs.Ports.{in0, in1}
use Rattle.pac_map.specs.declared.bus_table.BusPlace.{BusPlace}
use Rattle.pac_map.specs.declared.bus_table.BusPlace.TheVariants.{Program, Tile, Colour, Work, Nothing, Inputs0, Inputs1, Switches}

-- what a read asks: the cells of the program ROM and of the RAMs, the mask of inputs held, the DIP switches' byte
pub record Lookups : Type 0 where
  pub program : ℕ → ℕ
  pub tile : ℕ → ℕ
  pub colour : ℕ → ℕ
  pub work : ℕ → ℕ
  pub held : ℕ
  pub switches : ℕ

-- the byte that a place gives: the block with no chip reads BFH, and the watchdog's address FFH, as does what is
-- only written (this profile)
abbrev pub answer : Lookups → BusPlace → ℕ
answer lookups (Program cell) = lookups.program cell
answer lookups (Tile cell) = lookups.tile cell
answer lookups (Colour cell) = lookups.colour cell
answer lookups (Work cell) = lookups.work cell
answer lookups Nothing = 0xBF
answer lookups Inputs0 = in0 lookups.held
answer lookups Inputs1 = in1 lookups.held
answer lookups Switches = lookups.switches
answer lookups _ = 0xFF

-- the byte that an input port gives: no port is wired, and all lines are high (this profile)
abbrev pub port_byte : ℕ → ℕ
port_byte port = 0xFF
