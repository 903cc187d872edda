-- Believed: the board's bus: what reads and inputs give, and what writes and outputs leave, over a ROM set and a view.
use Rattle.std.specs.Prelude.{ℕ, List, slice_index}
use Rattle.pac_map.specs.Lookups.{Lookups, answer}
use Rattle.pac_map.specs.Place.{read_place}
use Rattle.pac_map.specs.View.{View}

-- what reads ask of a program ROM and a view
abbrev pub lookups_of : List ℕ → View → Lookups
lookups_of program view = record {
  program = slice_index program;
  tile = slice_index view.tile;
  colour = slice_index view.colour;
  work = slice_index view.work;
  held = view.held;
  switches = view.switches;
}

-- the byte that a read from an address gives
abbrev pub read_of : List ℕ → View → ℕ → ℕ
read_of program view address = answer (lookups_of program view) (read_place address)
