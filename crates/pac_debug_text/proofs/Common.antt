-- The words that proofs here, and those of crates above, import of definitions, of std and of the crates below.

pub use Rattle.pac_dis.proofs.Common.{Leaves, leaves-less, leaves-nothing, leaves-refused, size_at, wrapped_address}
unfoldable pub use Rattle.pac_dis.proofs.Common.{line_text}
pub use Rattle.pac_lemmas.proofs.Common.{Err, List, Ok, Result, Some, [], ap, arith, at_drop_more, bytes_eq, drop, drop_more}
pub use Rattle.pac_lemmas.proofs.Common.{err_from_is_err_and, flat_map, get_or, length, lookup, map, rules, subst, sym, true, ℕ, ◌*◌, ◌++◌}
pub use Rattle.pac_lemmas.proofs.Common.{◌+◌, ◌-◌, ◌<◌, ◌∙◌, ◌∷◌, ◌≡◌, ◌≤◌}
unfoldable pub use Rattle.pac_debug_text.specs.Commands.{command_of}
pub use Rattle.pac_debug_text.specs.Numbers.{address_of, number_within}
pub use Rattle.pac_debug_text.specs.NumbersProofs.{hex_digit_number}
pub use Rattle.pac_debug_text.specs.Peeks.{memory_row_bytes, memory_text, row_head, spaced_byte}
unfoldable pub use Rattle.pac_debug_text.specs.Peeks.{bytes_from, instructions_text, row_text, rows_text}
pub use Rattle.pac_debug_text.specs.Slots.{slot_index}
pub use Rattle.pac_debug_text.specs.Texts.{registers_text}
unfoldable pub use Rattle.pac_debug_text.specs.Texts.{alternate_text, interrupts_text, latches_text, pairs_text, past_step_text}
pub use Rattle.pac_debug_text.specs.declared.command.Command.{Command}
pub use Rattle.pac_debug_text.specs.declared.command.NoCommand.{NoCommand}
pub use Rattle.pac_lemmas.proofs.Digits.{too-large, with_digits}
pub use Rattle.pac_lex.specs.Numbers.{value_of_digit}
pub use Rattle.pac_out.proofs.Gathering.{gathers-within, leaves-all}
pub use Rattle.pac_out.specs.Pending.{Gathers}
pub use Rattle.pac_out.specs.declared.WriteFault.{WriteFault}
pub use Rattle.pac_out.specs.declared.counted.Counted.{Counted}
pub use Rattle.std.specs.Char.{is_ascii_hexdigit}
pub use Rattle.std.specs.Prelude.{codes, min}
