-- The words that proofs here, and those of crates above, import of definitions, of std and of the crates below.

pub use Rattle.pac_cpu.proofs.Common.{Action, Some, is_restart, sym}
unfoldable pub use Rattle.pac_cpu.proofs.Common.{cpu_step, tabulate}
pub use Rattle.pac_exec.proofs.Common.{Bool, List, [], ap, arith, bc, false, get_or, hl, if◌then◌else◌, refl, true, with_bc, with_hl, ℕ}
pub use Rattle.pac_exec.proofs.Common.{◌+◌, ◌∙◌, ◌≡◌}
unfoldable pub use Rattle.pac_exec.proofs.Common.{bit_operation_effect, byte_arithmetic_effect, byte_load_effect, call_effect}
unfoldable pub use Rattle.pac_exec.proofs.Common.{control_effect, effect_by, exchange_effect, field_condition, is_met, jump_effect}
unfoldable pub use Rattle.pac_exec.proofs.Common.{port_effect, reads_by, rotate_and_shift_effect, row_at, table, word_arithmetic_effect}
unfoldable pub use Rattle.pac_exec.proofs.Common.{word_load_effect}
pub use Rattle.pac_alu.specs.Arithmetic.{adjusted_half_carry, adjusted_of, corrects_high}
unfoldable pub use Rattle.pac_alu.specs.Arithmetic.{arithmetic_of, carry_flipped_of, carry_set_of, complement_of, decimal_of, decrement_of}
unfoldable pub use Rattle.pac_alu.specs.Arithmetic.{difference_of, field_operation, increment_of, logic_of, negation_of, sum_of}
unfoldable pub use Rattle.pac_alu.specs.Bits.{bit_test_of, with_bit, without_bit}
pub use Rattle.pac_alu.specs.Flags.{flag_byte_of, flags_of, is_negative}
unfoldable pub use Rattle.pac_alu.specs.Rotate.{accumulator_rotation_of, field_shift, left_digits_of, right_digits_of, shift_of}
unfoldable pub use Rattle.pac_alu.specs.Transfer.{control_load_flags_of, copy_flags_of, input_flags_of, port_flags_of, search_flags_of}
unfoldable pub use Rattle.pac_alu.specs.Words.{word_difference_with_carry_of, word_sum_of, word_sum_with_carry_of}
pub use Rattle.pac_alu.specs.declared.flag_byte.Flags.{Flags}
pub use Rattle.pac_cpu_vectors.specs.Decimals.{Adjusted, EachDaaIsByBits, adjusted_by_bits, with_adjusted}
pub use Rattle.pac_cpu_vectors.specs.Manual.{CopiesBlocks, InputsBlocks, OnlyTheseAreRestarts, OutputsBlocks, SearchesBlocks, done_again_if}
pub use Rattle.pac_cpu_vectors.specs.Manual.{down, restart_codes, up}
pub use Rattle.pac_exec.specs.declared.regs.Regs.{Regs}
pub use Rattle.pac_num.proofs.Tabulated.{get_or-tabulate}
unfoldable pub use Rattle.pac_table.specs.Instructions.{row_of}
pub use Rattle.std.proofs.Common.{nat_lt, not, ◌%◌, ◌-◌, ◌<◌, ◌==◌}
pub use Rattle.std.specs.List.{list_any}
pub use Rattle.std.specs.Prelude.{⊤}
