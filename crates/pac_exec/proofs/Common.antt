-- The words that proofs here, and those of crates above, import of definitions, of std and of the crates below.

pub use Rattle.pac_table.proofs.Common.{Bool, Instruction, List, [], ap, arith, false, get_or, least_ticks, list_all}
pub use Rattle.pac_table.proofs.Common.{most_ticks, nat_le, refl, ticks_of, ticks_other_of, true, ℕ, ◌&&◌, ◌+◌, ◌∙◌, ◌∷◌, ◌≡◌, ◌≤◌}
unfoldable pub use Rattle.pac_table.proofs.Common.{row_at, table}
unfoldable pub use Rattle.pac_alu.specs.Flags.{field_condition, is_met}
unfoldable pub use Rattle.pac_exec.specs.BitOperations.{bit_operation_effect}
unfoldable pub use Rattle.pac_exec.specs.ByteArithmetic.{byte_arithmetic_effect}
unfoldable pub use Rattle.pac_exec.specs.ByteLoads.{byte_load_effect}
unfoldable pub use Rattle.pac_exec.specs.Calls.{call_effect}
pub use Rattle.pac_exec.specs.CellsRead.{place_cells, reads_of, word_cells}
unfoldable pub use Rattle.pac_exec.specs.CellsRead.{reads_by}
unfoldable pub use Rattle.pac_exec.specs.Control.{control_effect}
pub use Rattle.pac_exec.specs.Effect.{effect}
unfoldable pub use Rattle.pac_exec.specs.Effect.{effect_by}
unfoldable pub use Rattle.pac_exec.specs.Exchanges.{exchange_effect}
unfoldable pub use Rattle.pac_exec.specs.Jumps.{jump_effect}
pub use Rattle.pac_exec.specs.Pairs.{push_writes, with_room, word_at}
pub use Rattle.pac_exec.specs.Places.{place_byte}
unfoldable pub use Rattle.pac_exec.specs.Ports.{port_effect}
pub use Rattle.pac_exec.specs.Registers.{bc, hl, with_bc, with_hl}
unfoldable pub use Rattle.pac_exec.specs.Shifts.{rotate_and_shift_effect}
unfoldable pub use Rattle.pac_exec.specs.WordArithmetic.{word_arithmetic_effect}
unfoldable pub use Rattle.pac_exec.specs.WordLoads.{word_load_effect}
pub use Rattle.pac_exec.specs.declared.regs.Regs.{Regs}
pub use Rattle.pac_num.specs.Numbers.{word, wrapped_address}
pub use Rattle.pac_table.proofs.TableRules.{passes-at}
pub use Rattle.pac_table.specs.declared.effects.BytePlace.{BytePlace}
pub use Rattle.pac_table.specs.declared.effects.Effect.{Effect}
pub use Rattle.pac_table.specs.declared.table.Row.{Row}
pub use Rattle.std.proofs.Common.{map}
pub use Rattle.std.proofs.lemmas.Bool.Decides.{nat_tests}
pub use Rattle.std.proofs.lemmas.List.{get_or_past}
pub use Rattle.std.specs.Prelude.{if◌then◌else◌}
