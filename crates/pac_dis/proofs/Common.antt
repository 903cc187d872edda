-- The words that proofs here, and those of crates above, import of definitions, of std and of the crates below.

pub use Rattle.pac_code.proofs.Common.{Begins, Instruction, IsDisplacement, IsInstruction, IsSignedByte, List, [], and_parts, ap, arith}
pub use Rattle.pac_code.proofs.Common.{code, common_steps, decoded_instruction, eqb-true, length, length-append, length-code, lists}
pub use Rattle.pac_code.proofs.Common.{pattern_of, refl, row-passes, rules, subst, suc, sym, take, true, word_limit, ℕ, ℤ, ◌&&◌, ◌++◌, ◌+◌}
pub use Rattle.pac_code.proofs.Common.{◌<◌, ◌∙◌, ◌∷◌, ◌≡◌}
unfoldable pub use Rattle.pac_code.proofs.Common.{row_at, table}
pub use Rattle.pac_lemmas.proofs.Common.{Bool, None, Option, Some, drop, err_from_is_err_and, get_or, if◌then◌else◌, ints, leb-true}
pub use Rattle.pac_lemmas.proofs.Common.{length-take, list_all, ltb-true, nat_lt, not, zero, ◌-◌, ◌/◌, ◌||◌, ◌≤◌}
pub use Rattle.pac_table.proofs.Common.{operands_of, operation_name}
pub use Rattle.pac_table_names.proofs.Common.{list_all-get_or, listed_shapes, names_in, nat_le, text_of_name, written_operands}
pub use Rattle.pac_dis.specs.Front.{first_four, fitting_instruction}
unfoldable pub use Rattle.pac_dis.specs.Front.{front_instruction}
pub use Rattle.pac_dis.specs.Lines.{disassembly}
unfoldable pub use Rattle.pac_dis.specs.Lines.{line_text, lines_after}
pub use Rattle.pac_dis.specs.Numerals.{leading_zero}
unfoldable pub use Rattle.pac_dis.specs.Numerals.{byte_text, displacement_text, word_text}
pub use Rattle.pac_dis.specs.Ranges.{ShowsEach, ShowsNumbers}
pub use Rattle.pac_dis.specs.Texts.{blank_code, comma_code, in_parentheses, marked_operands, name_text, number_text, operand_text}
pub use Rattle.pac_dis.specs.Texts.{operand_texts, operation_text, size_at}
unfoldable pub use Rattle.pac_dis.specs.Texts.{data_text, instruction_text}
pub use Rattle.pac_dis.specs.TextsProofs.{Disassembles}
unfoldable pub use Rattle.pac_num.specs.Hexadecimal.{hex_byte, hex_word}
pub use Rattle.pac_num.specs.Numbers.{wrapped_address}
pub use Rattle.pac_out.proofs.Gathering.{Leaves, leaves-less, leaves-nothing, leaves-refused}
pub use Rattle.pac_table.specs.declared.operands.Name.{Name}
pub use Rattle.pac_table.specs.declared.operands.NumberKind.{NumberKind}
pub use Rattle.pac_table.specs.declared.operands.Operands.{Operands}
pub use Rattle.pac_table.specs.declared.operands.Shape.{Shape}
pub use Rattle.pac_table.specs.declared.operands.Shape.TheVariants.{Absent, AlternateAf, AtName, AtNumber, FirstField, Indexed, Named}
pub use Rattle.pac_table.specs.declared.operands.Shape.TheVariants.{Number, SecondField}
pub use Rattle.pac_table.specs.declared.patterns.Immediate.{Immediate}
pub use Rattle.pac_table.specs.declared.table.Row.{Row}
pub use Rattle.std.proofs.lemmas.Bool.{eqb-false}
pub use Rattle.std.specs.Option.{option_map_or}
pub use Rattle.std.specs.Prelude.{map, max, option_and_then, slice_index, unwrap_or}
