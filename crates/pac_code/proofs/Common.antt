-- The words that proofs here, and those of crates above, import of definitions, of std and of the crates below.

pub use Rattle.pac_lemmas.proofs.Common.{common_steps, get_or-take, take, take-append_seam}
pub use Rattle.pac_table.proofs.Common.{Instruction, IsDisplacement, IsInstruction, IsSignedByte, List, None, Option, Some, [], and_from}
pub use Rattle.pac_table.proofs.Common.{and_parts, ap, arith, code, code_bytes, decoded_instruction, eq-eqb, eqb-true, has_page_prefix}
pub use Rattle.pac_table.proofs.Common.{immediate_bytes, immediate_displacement, immediate_place, immediate_word, instruction_of_row}
pub use Rattle.pac_table.proofs.Common.{is_on_page, is_opcode, length, length-append, lists, matches_row, no_row, number_on, opcode}
pub use Rattle.pac_table.proofs.Common.{opcode_of, opcode_place, page_number, page_prefix, pattern_of, position-Some, refl, rules}
pub use Rattle.pac_table.proofs.Common.{slice_index, subst, suc, sym, true, unwrap_or, value_in_field, word_limit, ℕ, ℤ, ◌&&◌, ◌++◌, ◌+◌}
pub use Rattle.pac_table.proofs.Common.{◌<◌, ◌==◌, ◌∙◌, ◌∷◌, ◌≡◌}
unfoldable pub use Rattle.pac_table.proofs.Common.{row_at, row_count, row_of, row_on, table}
pub use Rattle.pac_code.specs.Codes.{Begins, DecodesBack, DecodesPrefix}
pub use Rattle.pac_code.specs.CodesProofs.{MatchesNoRow}
pub use Rattle.pac_code.specs.Items.{Content, Data, IsValid, Item, bytes_in, bytes_of}
pub use Rattle.pac_lemmas.proofs.Searches.{fails-without-position, position-of-the-only}
pub use Rattle.pac_num.specs.Numbers.{byte_of_signed, high_byte, low_byte, signed_of_byte, word}
pub use Rattle.pac_table.proofs.Lengths.{has_room, immediate_length, length-code, length-code-parts, length-immediate-bytes, room-of}
pub use Rattle.pac_table.proofs.Lengths.{row_has_room, rows-have-room}
pub use Rattle.pac_table.proofs.TableRules.{row-passes}
pub use Rattle.pac_table.proofs.Uniqueness.{HoldsFields, fields-held, one-row}
pub use Rattle.pac_table.specs.declared.patterns.Immediate.{Immediate}
pub use Rattle.pac_table.specs.declared.patterns.Page.{Page}
pub use Rattle.pac_table.specs.declared.patterns.Pattern.{Pattern}
pub use Rattle.std.proofs.Math.Nat.{mod-add-div}
pub use Rattle.std.proofs.lemmas.List.{take-take}
pub use Rattle.std.specs.Prelude.{IsTrue, option_map}
