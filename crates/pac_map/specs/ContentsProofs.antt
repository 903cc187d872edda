-- For proofs: what proofs say of the definitions of Contents.antt.
use Rattle.pac_map.specs.declared.board_bus.Map.{Map}
use Rattle.std.specs.Prelude.{ℕ, fold, if◌then◌else◌}
use Rattle.pac_map.specs.Contents.{read_of}
use Rattle.pac_map.specs.Lookups.{port_byte}
use Rattle.pac_bus.specs.Action.{Action}
use Rattle.pac_map.specs.Entry.{view_after, entries_of}
use Rattle.pac_map.specs.Heard.{touches_sound}

-- the byte that a read from an address of the bus gives, and the one that an input from a port gives
abbrev pub map_byte_at : Map → ℕ → ℕ
map_byte_at map address = read_of map.set.program map.memory address

abbrev pub map_input_at : Map → ℕ → ℕ
map_input_at map port = port_byte port

-- the bus after an action of the processor; that sound was touched is noted beside the memory, by a 0
abbrev pub map_after_action : Map → Action → Map
map_after_action map action = record map {
  memory = fold view_after map.memory (entries_of action);
  look = if touches_sound action then 0 else map.look;
}
