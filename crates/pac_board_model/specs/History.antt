-- Believed: what has happened to the board: a start view and the list of entries since, the newest first. Whatever the
-- board answers is asked of these two: the last entry that decides, and where none does, the start view.
use Rattle.std.specs.Prelude.{ℕ, List, [], ◌∷◌, ◌==◌, Bool, false, Option, Some, None, unwrap_or, if◌then◌else◌, slice_index}
use Rattle.pac_map.specs.declared.bus_table.BusPlace.{BusPlace}
use Rattle.pac_map.specs.declared.bus_table.BusPlace.TheVariants.{Tile, Colour, Work, Wave, Coordinate}
use Rattle.pac_map.specs.Lookups.{Lookups, answer}
use Rattle.pac_map.specs.Entry.{Entry, Write, Hold}
use Rattle.pac_map.specs.Place.{registers_size, read_place}
use Rattle.pac_map.specs.View.{View, kept_nibble}
use Rattle.pac_cpu.specs.Tabulate.{tabulate}
use Rattle.pac_map.specs.RomParts.{Parts}
use Rattle.pac_board_model.specs.BoardView.{BoardView, board_after}

-- whether two places are one: a cell of tile, colour or work RAM, one of the sprites' coordinates, a register of the wave generator
abbrev pub is_same_place : BusPlace → BusPlace → Bool
is_same_place (Tile cell) (Tile other) = other == cell
is_same_place (Colour cell) (Colour other) = other == cell
is_same_place (Work cell) (Work other) = other == cell
is_same_place (Coordinate place) (Coordinate other) = other == place
is_same_place (Wave register) (Wave other) = other == register
is_same_place _ _ = false

-- the byte last written to the place that a test tells
abbrev pub last_written : (BusPlace → Bool) → List Entry → Option ℕ
last_written here [] = None
last_written here (Write place byte ∷ older) = if here place then Some byte else last_written here older
last_written here (entry ∷ older) = last_written here older

-- the mask of inputs last held
abbrev pub last_held : List Entry → Option ℕ
last_held [] = None
last_held (Hold mask ∷ older) = Some mask
last_held (entry ∷ older) = last_held older

abbrev pub tile_at : View → List Entry → ℕ → ℕ
tile_at start entries cell = unwrap_or (last_written (is_same_place (Tile cell)) entries) (slice_index start.tile cell)

abbrev pub colour_at : View → List Entry → ℕ → ℕ
colour_at start entries cell = unwrap_or (last_written (is_same_place (Colour cell)) entries) (slice_index start.colour cell)

abbrev pub work_at : View → List Entry → ℕ → ℕ
work_at start entries cell = unwrap_or (last_written (is_same_place (Work cell)) entries) (slice_index start.work cell)

abbrev pub coordinate_at : View → List Entry → ℕ → ℕ
coordinate_at start entries place =
    unwrap_or (last_written (is_same_place (Coordinate place)) entries) (slice_index start.coordinates place)

-- a register of the wave generator holds what it can of the byte last written
abbrev pub register_at : View → List Entry → ℕ → ℕ
register_at start entries register =
    kept_nibble register (unwrap_or (last_written (is_same_place (Wave register)) entries) (slice_index start.registers register))

-- the wave registers as a list
abbrev pub history_registers : View → List Entry → List ℕ
history_registers start entries = tabulate registers_size (λ register. register_at start entries register)

-- what reads ask of a program ROM and a history
abbrev pub history_lookups : List ℕ → View → List Entry → Lookups
history_lookups program start entries = record {
  program = slice_index program;
  tile = tile_at start entries;
  colour = colour_at start entries;
  work = work_at start entries;
  held = unwrap_or (last_held entries) start.held;
  switches = start.switches;
}

-- the byte that a read from an address gives
abbrev pub read : List ℕ → View → List Entry → ℕ → ℕ
read program start entries address = answer (history_lookups program start entries) (read_place address)

-- the board that a history leaves, and its memory: each entry in turn, the oldest first
abbrev pub board_after_entries : Parts → BoardView → List Entry → BoardView
board_after_entries set start [] = start
board_after_entries set start (entry ∷ older) = board_after set (board_after_entries set start older) entry
