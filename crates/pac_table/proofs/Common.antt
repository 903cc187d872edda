-- The words that proofs here, and those of crates above, import of definitions, of std and of the crates below.

pub use Rattle.pac_lemmas.proofs.Common.{Bool, List, [], and_from, and_parts, ap, arith, cases_Bool, cond-false, eq-eqb, eqb-true, false}
pub use Rattle.pac_lemmas.proofs.Common.{get_or, get_or-map-range_with_len, get_or_default, if◌then◌else◌, inl, inr, length, length-append}
pub use Rattle.pac_lemmas.proofs.Common.{list_all, ltb-true, nat_lt, not, position_or_len, refl, rules, slice_index, subst, suc, sym, true}
pub use Rattle.pac_lemmas.proofs.Common.{unwrap_or, zero, ℕ, ℤ, ◌&&◌, ◌++◌, ◌+◌, ◌<◌, ◌==◌, ◌||◌, ◌∙◌, ◌∷◌, ◌≡◌, ◌≤◌}
pub use Rattle.pac_lemmas.proofs.Booleans.{same-by-implications}
pub use Rattle.pac_table.specs.Counts.{is_on_page, page_number}
pub use Rattle.pac_table.specs.Forms.{fills_code}
pub use Rattle.pac_table.specs.Instructions.{Instruction, IsInstruction, code, decoded_instruction, effect_of, instruction_of_row}
pub use Rattle.pac_table.specs.Instructions.{least_ticks, matches_row, most_ticks, opcode_of, operands_of, pattern_of, ticks_of}
pub use Rattle.pac_table.specs.Instructions.{ticks_other_of}
unfoldable pub use Rattle.pac_table.specs.Instructions.{row_at, row_count, row_of}
pub use Rattle.pac_table.specs.Mnemonics.{names_of, operation_name}
pub use Rattle.pac_table.specs.Pages.{no_row, number_on, numbers_on}
unfoldable pub use Rattle.pac_table.specs.Pages.{page_from, row_on}
pub use Rattle.pac_table.specs.Patterns.{IsDisplacement, IsSignedByte, code_bytes, field_size, has_page_prefix, immediate_bytes}
pub use Rattle.pac_table.specs.Patterns.{immediate_displacement, immediate_place, immediate_word, is_displacement_first, is_opcode, lists}
pub use Rattle.pac_table.specs.Patterns.{matches, opcode, opcode_place, page_prefix, value_in_field, word_limit}
pub use Rattle.pac_table.specs.PatternsLaws.{longest_code}
pub use Rattle.pac_table.specs.PatternsProofs.{IsByte}
unfoldable pub use Rattle.pac_table.specs.Table.{table}
pub use Rattle.pac_table.specs.declared.effects.BitOperation.{BitOperation}
pub use Rattle.pac_table.specs.declared.effects.Block.{Block}
pub use Rattle.pac_table.specs.declared.effects.BlockOperation.{BlockOperation}
pub use Rattle.pac_table.specs.declared.effects.ByteArithmetic.{ByteArithmetic}
pub use Rattle.pac_table.specs.declared.effects.ByteLoad.{ByteLoad}
pub use Rattle.pac_table.specs.declared.effects.BytePlace.{BytePlace}
pub use Rattle.pac_table.specs.declared.effects.Call.{Call}
pub use Rattle.pac_table.specs.declared.effects.Control.{Control}
pub use Rattle.pac_table.specs.declared.effects.Direction.{Direction}
pub use Rattle.pac_table.specs.declared.effects.Effect.{Effect}
pub use Rattle.pac_table.specs.declared.effects.Exchange.{Exchange}
pub use Rattle.pac_table.specs.declared.effects.InterruptMode.{InterruptMode}
pub use Rattle.pac_table.specs.declared.effects.InterruptMode.TheVariants.{One, Two, Zero}
pub use Rattle.pac_table.specs.declared.effects.Jump.{Jump}
pub use Rattle.pac_table.specs.declared.effects.Port.{Port}
pub use Rattle.pac_table.specs.declared.effects.RotateAndShift.{RotateAndShift}
pub use Rattle.pac_table.specs.declared.effects.WordArithmetic.{WordArithmetic}
pub use Rattle.pac_table.specs.declared.effects.WordLoad.{WordLoad}
pub use Rattle.pac_table.specs.declared.operands.Mnemonic.{Mnemonic}
pub use Rattle.pac_table.specs.declared.operands.Name.{Name}
pub use Rattle.pac_table.specs.declared.operands.NumberKind.{NumberKind}
pub use Rattle.pac_table.specs.declared.operands.Operands.{Operands}
pub use Rattle.pac_table.specs.declared.operands.Shape.{Shape}
pub use Rattle.pac_table.specs.declared.operands.Shape.TheVariants.{Absent, AlternateAf, AtName, AtNumber, FirstField, Indexed, Named}
pub use Rattle.pac_table.specs.declared.operands.Shape.TheVariants.{Number, SecondField}
pub use Rattle.pac_table.specs.declared.patterns.Field.{Field}
pub use Rattle.pac_table.specs.declared.patterns.Immediate.{Immediate}
pub use Rattle.pac_table.specs.declared.patterns.Page.{Page}
pub use Rattle.pac_table.specs.declared.patterns.Pattern.{Pattern}
pub use Rattle.pac_table.specs.declared.table.Row.{Row}
pub use Rattle.std.proofs.Common.{nat_le}
pub use Rattle.std.proofs.lemmas.Bool.{agree_below, agree_below_at, cases_order, or_cases}
pub use Rattle.std.proofs.lemmas.List.Folds.{list_all_at}
pub use Rattle.std.proofs.lemmas.List.Quantifiers.{position-Some}
pub use Rattle.std.specs.Prelude.{None, Option, Some, position}
