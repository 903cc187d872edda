-- The words that proofs here, and those of crates above, import of definitions, of std and of the crates below.

pub use Rattle.pac_expr.proofs.Common.{Mark, Tree, atom, closing, group, here, kind_mark, marks_of, opening, spelling}
unfoldable pub use Rattle.pac_expr.proofs.Common.{tree_in, tree_of}
pub use Rattle.pac_lemmas.proofs.Common.{All-head, All-tail, common_steps, cond, eq-eqb, get_or_default, ints, lookup, map-append, or_parts}
pub use Rattle.pac_lemmas.proofs.Common.{pos, position_or_len, rules, slice_split, to_z-of_z, ℤ, ◌++◌}
pub use Rattle.pac_lex.proofs.Common.{Lexeme, length-slice_split, slice_split_first, view, views}
pub use Rattle.pac_table.proofs.Common.{Instruction, IsDisplacement, IsInstruction, code}
pub use Rattle.pac_table_names.proofs.Common.{AreNamed, Bool, List, None, Option, Some, [], and_parts, ap, arith, cases_Bool, cond-false}
pub use Rattle.pac_table_names.proofs.Common.{cond-true, distinct-by-test, drop, eqb-true, false, false≢true, family_in, filter, find}
pub use Rattle.pac_table_names.proofs.Common.{get_or, if◌then◌else◌, inl, inr, is_some, is_written, leb-true, length, length-map, list_all}
pub use Rattle.pac_table_names.proofs.Common.{list_any, listed_shapes, ltb-true, map, name_texts, nat_le, not, position, position-all-fail}
pub use Rattle.pac_table_names.proofs.Common.{present_shape, refl, rows_named_from, slice_get, subst, suc, sym, take, true, unwrap_or}
pub use Rattle.pac_table_names.proofs.Common.{value_named, written_operands, ℕ, ◌&&◌, ◌+◌, ◌-◌, ◌<◌, ◌==◌, ◌||◌, ◌∙◌, ◌∷◌, ◌≡◌, ◌≤◌}
unfoldable pub use Rattle.pac_table_names.proofs.Common.{is_distinct, name_of, operation_names, row_at, row_count, rows_named, table}
pub use Rattle.pac_asm_operation.specs.Directives.{directive_names, is_directive}
unfoldable pub use Rattle.pac_asm_operation.specs.Directives.{directive_of}
pub use Rattle.pac_asm_operation.specs.DirectivesProofs.{begins_directive}
pub use Rattle.pac_asm_operation.specs.Distinct.{ReservedWordsAreDistinct, reserved_words}
pub use Rattle.pac_asm_operation.specs.Kept.{IsKept, as_instruction, kept_operation, number_or_fault, parts_in_row, seen_operation}
pub use Rattle.pac_asm_operation.specs.Kept.{suits_row, with_row_number, with_tree, without_place}
pub use Rattle.pac_asm_operation.specs.Operands.{closes, each_or_none, ends_closed, expression_operand, indirect_operand, is_comma, is_sign}
pub use Rattle.pac_asm_operation.specs.Operands.{opens, operands_of_parts, parts_at_commas}
unfoldable pub use Rattle.pac_asm_operation.specs.Operands.{operand_of}
pub use Rattle.pac_asm_operation.specs.OperandsProofs.{parts_after}
pub use Rattle.pac_asm_operation.specs.Operations.{Operation, all_take, are_forms, chosen_instruction, first_operation_fault, fits, fits_as}
pub use Rattle.pac_asm_operation.specs.Operations.{holds, holds_displacement, instruction_in_row, is_form, parts_as, row_size, suits}
pub use Rattle.pac_asm_operation.specs.Operations.{suits_as, takes, valued_operands, with_all_operands, with_operand}
unfoldable pub use Rattle.pac_asm_operation.specs.Operations.{instruction_of, operation_of, operation_size, row_for}
pub use Rattle.pac_asm_operation.specs.Reserved.{is_reserved, is_reserved_token, reserves}
unfoldable pub use Rattle.pac_asm_operation.specs.Reserved.{expression_in}
pub use Rattle.pac_asm_operation.specs.Views.{IsTree, fits_row, inside_parentheses, operand_pair, seen_operand, seen_operands, tree_within}
unfoldable pub use Rattle.pac_asm_operation.specs.Views.{tree_of_tokens}
pub use Rattle.pac_asm_operation.specs.declared.directive.Directive.{Directive}
pub use Rattle.pac_asm_operation.specs.declared.fault.OperationFault.{OperationFault}
pub use Rattle.pac_asm_operation.specs.declared.fault.OperationFault.TheVariants.{Arithmetic, Range, Undefined}
pub use Rattle.pac_asm_operation.specs.declared.operand.Operand.{Operand}
pub use Rattle.pac_asm_operation.specs.declared.operand.Operand.TheVariants.{Indexed, Memory, Value}
pub use Rattle.pac_expr.proofs.Complete.{tree-of-spelling}
pub use Rattle.pac_lemmas.proofs.Booleans.{and-false}
pub use Rattle.pac_lemmas.proofs.Searches.{find-map-same, find-same, position-cons}
pub use Rattle.pac_lex.specs.declared.token.Token.{Token}
pub use Rattle.pac_lex.specs.declared.token.TokenKind.{TokenKind}
pub use Rattle.pac_table.specs.declared.operands.Name.{Name}
pub use Rattle.pac_table.specs.declared.operands.Operands.{Operands}
pub use Rattle.pac_table.specs.declared.operands.Shape.{Shape}
pub use Rattle.pac_table.specs.declared.patterns.Immediate.{Immediate}
pub use Rattle.pac_table.specs.declared.table.Row.{Row}
pub use Rattle.pac_table_names.proofs.Distinct.{operation_names_are_distinct}
pub use Rattle.pac_table_names.proofs.Longer.{not-longer}
pub use Rattle.std.proofs.Common.{length-drop}
pub use Rattle.std.proofs.Math.Seq.{take-length}
pub use Rattle.std.proofs.lemmas.List.{drop-map, take-map}
pub use Rattle.std.proofs.lemmas.List.Folds.{list_any-append}
pub use Rattle.std.proofs.lemmas.List.Splits.{slice_split-cons_no}
pub use Rattle.std.proofs.lemmas.Map.Made.{is_some-lookup}
pub use Rattle.std.specs.List.{All, onto_first}
pub use Rattle.std.specs.Map.{keys_of}
pub use Rattle.std.specs.Option.{ok_or, option_and_then}
pub use Rattle.std.specs.Prelude.{Err, IfOk, IfSome, IsSome, Ok, option_map}
pub use Rattle.std.specs.Str.{str_eq_ignore_ascii_case}
