-- The words that proofs here, and those of crates above, import of definitions, of std and of the crates below.

pub use Rattle.pac_asm_operation.proofs.Common.{Bool, Lexeme, List, Tree, [], and_parts, ap, arith, atom, begins_directive, cases_Bool}
pub use Rattle.pac_asm_operation.proofs.Common.{cond-false, cond-true, directive_names, each_or_none, false, false≢true, filter}
pub use Rattle.pac_asm_operation.proofs.Common.{first_operation_fault, here, if◌then◌else◌, inl, inr, is_comma, is_reserved_token, length}
pub use Rattle.pac_asm_operation.proofs.Common.{length-map, length-slice_split, list_all, list_any, lookup, map, not, option_and_then}
pub use Rattle.pac_asm_operation.proofs.Common.{parts_after, parts_at_commas, refl, rules, slice_get, slice_split, str_eq_ignore_ascii_case}
pub use Rattle.pac_asm_operation.proofs.Common.{subst, suc, sym, take, true, views, ℕ, ℤ, ◌&&◌, ◌++◌, ◌+◌, ◌<◌, ◌==◌, ◌||◌, ◌∙◌, ◌∷◌, ◌≡◌}
pub use Rattle.pac_asm_operation.proofs.Common.{◌≤◌}
unfoldable pub use Rattle.pac_asm_operation.proofs.Common.{directive_of, expression_in, tree_in}
pub use Rattle.pac_code.proofs.Common.{Data, IsValid, bytes_in, high_byte, low_byte}
pub use Rattle.pac_asm_line.specs.Conditionals.{conditional_of_directive, conditional_word}
pub use Rattle.pac_asm_line.specs.ConditionalsProofs.{may_begin_conditional}
pub use Rattle.pac_asm_line.specs.Contents.{OrFault, byte_value, gathered_bytes, joined_bytes, map_unless_fault, part_bytes, part_size}
pub use Rattle.pac_asm_line.specs.Contents.{word_bytes, word_value}
unfoldable pub use Rattle.pac_asm_line.specs.Contents.{content_of}
pub use Rattle.pac_asm_line.specs.ContentsProofs.{SizeFits}
pub use Rattle.pac_asm_line.specs.Forms.{after_colon, is_name_kind, may_stand, one_or_more, part_in, statement_after_label, text_in}
unfoldable pub use Rattle.pac_asm_line.specs.Forms.{form_of, statement_of}
pub use Rattle.pac_asm_line.specs.Gathered.{ContentGives, gathered_so_far}
pub use Rattle.pac_asm_line.specs.Statements.{DataPart, Form, Statement, bytes, condition, end_condition, equate, nothing, operation}
pub use Rattle.pac_asm_line.specs.Statements.{origin, otherwise, space, text, value, words}
pub use Rattle.pac_asm_line.specs.Views.{part_of_tokens, parts_of_operands, seen_form, spelled_tree, trees_of}
pub use Rattle.pac_asm_line.specs.declared.conditional.Conditional.{Conditional}
pub use Rattle.pac_asm_line.specs.declared.conditional.Conditional.TheVariants.{Else, EndIf, If}
pub use Rattle.pac_asm_line.specs.declared.gathered.ContentError.{ContentError}
pub use Rattle.pac_asm_operation.proofs.FirstLetter.{with-letter}
pub use Rattle.pac_asm_operation.specs.declared.directive.Directive.{Directive}
pub use Rattle.pac_asm_operation.specs.declared.fault.OperationFault.{OperationFault}
pub use Rattle.pac_asm_operation.specs.declared.fault.OperationFault.TheVariants.{Arithmetic, Range, Undefined}
pub use Rattle.pac_lex.specs.Bytes.{after_gap, is_name_byte}
pub use Rattle.pac_lex.specs.declared.token.Token.{Token}
pub use Rattle.std.proofs.Common.{Err, IfOk, IfSome, None, Ok, Option, Result, Some, append_assoc, is_some, length-append, min, option_map}
pub use Rattle.std.proofs.Common.{unwrap_or, ◌*◌}
pub use Rattle.std.proofs.lemmas.Bool.{agree_below, agree_below_at}
pub use Rattle.std.proofs.lemmas.List.Sums.{sum_by-cons}
pub use Rattle.std.specs.List.{prefix_len, sum_by, take_while}
pub use Rattle.std.specs.Option.{option_map_or, option_or}
pub use Rattle.std.specs.Result.{result_map_both}
