-- The words that proofs here, and those of crates above, import of definitions, of std and of the crates below.

pub use Rattle.pac_latch.specs.Latched.{Latched, latched_after_bit, latched_after_blank}
pub use Rattle.pac_latch.specs.Latched.{latched_after_reset, watchdog_limit}
unfoldable pub use Rattle.pac_map.specs.Cleared.{zero_ram}
pub use Rattle.pac_map.specs.Contents.{lookups_of, read_of}
pub use Rattle.pac_map.specs.ContentsProofs.{map_after_action, map_byte_at, map_input_at}
pub use Rattle.pac_map.specs.Entry.{Accept, Blank, Entry, Hold, Line, Reset, Sample, Vector, Write, entries_of, view_after}
pub use Rattle.pac_map.specs.Entry.{view_after_write}
pub use Rattle.pac_map.specs.Heard.{SoundSettings, is_of_sound, sound_settings, touches_sound}
pub use Rattle.pac_map.specs.Latched.{interrupt_request, is_latch_bit_set, is_watchdog_due, latch_place}
pub use Rattle.pac_map.specs.Lookups.{answer, port_byte}
unfoldable pub use Rattle.pac_map.specs.PartsProofs.{zero_parts}
pub use Rattle.pac_map.specs.Place.{coordinates_size, ram_size, read_place, registers_size, write_place}
pub use Rattle.pac_map.specs.PlaceProofs.{IsPlaceInRange}
pub use Rattle.pac_map.specs.RomParts.{IsWhole, Parts, program_size}
pub use Rattle.pac_map.specs.View.{IsWellFormed, View, attributes_size, kept_nibble, power_on_view, sprite_attributes}
pub use Rattle.pac_map.specs.contracts.memory.Memory.{the_view}
pub use Rattle.pac_map.specs.declared.bus_table.BusPlace.{BusPlace}
pub use Rattle.pac_map.specs.declared.bus_table.BusPlace.TheVariants.{Latch}
pub use Rattle.std.proofs.Common.{Bool, List, ap, arith, cond, drop, false, length, nat_lt, refl, rules, slice_index, slice_set, subst, suc}
pub use Rattle.std.proofs.Common.{sym, take, true, zero, ℕ, ◌%◌, ◌+◌, ◌-◌, ◌<◌, ◌==◌, ◌∙◌, ◌≡◌, ◌≢◌, ◌≤◌}
pub use Rattle.std.proofs.Math.Seq.{take-length}
pub use Rattle.std.proofs.lemmas.Bool.Decides.{nat_tests}
pub use Rattle.std.proofs.lemmas.Grind.{get_or-set_at}
pub use Rattle.std.proofs.lemmas.List.{get_or-set_other, get_or_past, length-drop, length-replicate, length-set}
