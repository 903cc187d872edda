-- Believed: what the board's address decoder selects (Namco Pac-Man service schematics, CPU board). A15 isn't wired. A14
-- low is the program ROM. A14 high leaves out A13: A12 low is the RAM page, A12 high the port page, which leaves out A11 to A8
-- too.
use Rattle.std.specs.Prelude.{ℕ, ◌-◌, ◌%◌, nat_lt, if◌then◌else◌}
use Rattle.pac_map.specs.declared.bus_table.BusPlace.{BusPlace}
use Rattle.pac_map.specs.declared.bus_table.BusPlace.TheVariants.{Program, Tile, Colour, Work, Nothing}
use Rattle.pac_map.specs.declared.bus_table.BusPlace.TheVariants.{Inputs0, Inputs1, Switches, Kick, Latch, Wave, Coordinate}

-- the bytes of each of the three RAMs; of the sprites' coordinates; the registers of the wave generator; and the bits
-- of the output latch
abbrev pub ram_size : ℕ
ram_size = 1024

abbrev pub coordinates_size : ℕ
coordinates_size = 16

abbrev pub registers_size : ℕ
registers_size = 32

-- the RAM page, 4,096 bytes: 000-3FF, 400-7FF, 800-BFF, C00-FFF
abbrev pub ram_place : ℕ → BusPlace
ram_place offset =
    if nat_lt offset 0x400 then Tile offset
    else if nat_lt offset 0x800 then Colour (offset - 0x400)
    else if nat_lt offset 0xC00 then Nothing
    else Work (offset - 0xC00)

-- the port page when read, 256 bytes: 00-3F, 40-7F, 80-BF, C0-FF
abbrev pub read_port : ℕ → BusPlace
read_port offset =
    if nat_lt offset 0x40 then Inputs0
    else if nat_lt offset 0x80 then Inputs1
    else if nat_lt offset 0xC0 then Switches
    else Kick

-- the port page when written: 00-3F (three lines choose the bit), 40-5F, 60-6F, 70-BF, C0-FF
abbrev pub write_port : ℕ → BusPlace
write_port offset =
    if nat_lt offset 0x40 then Latch (offset % 8)
    else if nat_lt offset 0x60 then Wave (offset - 0x40)
    else if nat_lt offset 0x70 then Coordinate (offset - 0x60)
    else if nat_lt offset 0xC0 then Nothing
    else Kick

-- the place that an address selects; a page of ports tells what it selects there
abbrev pub place : (ℕ → BusPlace) → ℕ → BusPlace
place port address =
    if nat_lt (address % 0x8000) 0x4000 then Program (address % 0x8000)
    else if nat_lt (address % 0x2000) 0x1000 then ram_place (address % 0x2000)
    else port (address % 0x100)

-- the place that a read from an address asks
abbrev pub read_place : ℕ → BusPlace
read_place address = place read_port address

-- the place that a write to an address reaches
abbrev pub write_place : ℕ → BusPlace
write_place address = place write_port address
