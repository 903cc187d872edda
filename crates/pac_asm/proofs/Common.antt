-- The words that proofs here, and those of crates above, import of definitions, of std and of the crates below.

pub use Rattle.pac_asm_line.proofs.Common.{Bool, Err, Form, IfOk, Lexeme, List, None, Ok, Option, OrFault, Result, SizeFits, Some}
pub use Rattle.pac_asm_line.proofs.Common.{Statement, Tree, [], after_colon, after_gap, and_parts, ap, append_assoc, arith, atom, bytes}
pub use Rattle.pac_asm_line.proofs.Common.{cases_Bool, cond-false, cond-true, condition, conditional_of_directive, end_condition, equate}
pub use Rattle.pac_asm_line.proofs.Common.{false, if◌then◌else◌, inl, inr, is_name_kind, is_some, length, length-append, list_any, map}
pub use Rattle.pac_asm_line.proofs.Common.{may_stand, not, nothing, operation, option_map, origin, otherwise, refl, result_map_both, rules}
pub use Rattle.pac_asm_line.proofs.Common.{seen_form, space, statement_after_label, subst, suc, sym, take, true, views, words, ℕ, ℤ, ◌++◌}
pub use Rattle.pac_asm_line.proofs.Common.{◌+◌, ◌<◌, ◌||◌, ◌∙◌, ◌∷◌, ◌≡◌, ◌≤◌}
unfoldable pub use Rattle.pac_asm_line.proofs.Common.{content_of, directive_of, form_of, statement_of}
pub use Rattle.pac_asm_operation.proofs.Common.{group, leb-true, length-drop, list_any-append, ok_or, or_parts, pos}
pub use Rattle.pac_asm_program.proofs.Common.{All, All-head, All-tail, Assembled, IsApartFrom, IsFit, IsZeroElsewhere, Item, Symbol}
pub use Rattle.pac_asm_program.proofs.Common.{and_from, bytes_of, covers, fill_by_all, get_or-drop, get_or-map-range_with_len}
pub use Rattle.pac_asm_program.proofs.Common.{get_or-replicate, get_or-take, items_in, items_of, le-leb, leb, length-map-range_with_len}
pub use Rattle.pac_asm_program.proofs.Common.{length-replicate, length-take-le, number_of_symbol, range_with_len, replicate, rom_size}
pub use Rattle.pac_asm_program.proofs.Common.{⊎_elim}
pub use Rattle.pac_expr.proofs.Common.{ValueResult, joined, joined_value, sign_value, signed, tree_value}
pub use Rattle.pac_lemmas.proofs.Common.{err_from_is_err_and, flat_map, flat_map-append, get_or-append_right, get_or_append_left}
pub use Rattle.pac_lemmas.proofs.Common.{length-take, nat_lt}
pub use Rattle.pac_lex.proofs.Common.{IsToken, append-nil, cases_lt, common_steps, cond, drop, first_word, get_or, lex_fault_code, lines}
pub use Rattle.pac_lex.proofs.Common.{lt-ltb, ltb, ltb-true, ne_eqb, none-some, same_Some, take_at, zero, ◌⊎◌}
unfoldable pub use Rattle.pac_lex.proofs.Common.{tokens_of}
pub use Rattle.pac_asm.specs.Assignments.{AreDefinedAbove, AtMostOneIsRight, LineStands, LineStep, NamesStand, ReadStands, RestStands, Spot}
pub use Rattle.pac_asm.specs.Assignments.{StatementStands, SymbolsAreRight, defined_after, first_spot, is_nonzero, label_symbols, step_by}
pub use Rattle.pac_asm.specs.Assignments.{step_if, step_read, with_bytes, with_open_ifs}
unfoldable pub use Rattle.pac_asm.specs.Assignments.{defined_in, step_of}
pub use Rattle.pac_asm.specs.Codes.{asm_code_text}
pub use Rattle.pac_asm.specs.CodesProofs.{fault_of_token, own_code}
pub use Rattle.pac_asm.specs.Conditions.{after_else, after_end, after_skipped, condition_of, is_judged, most_open_ifs}
pub use Rattle.pac_asm.specs.Counting.{OpenIf, behind_else, behind_endif, behind_skipped, counts, ends_part, is_read}
pub use Rattle.pac_asm.specs.Entries.{count_of, entry_by, entry_if}
unfoldable pub use Rattle.pac_asm.specs.Entries.{entries_in, entry_of}
pub use Rattle.pac_asm.specs.Errors.{AssemblyFails, AssemblyGives}
pub use Rattle.pac_asm.specs.Items.{AllFit, FitsLine, IsItemOf, IsLineOf, IsSized}
pub use Rattle.pac_asm.specs.Layouts.{ArePlacesApart, IsFree, IsFreePlace, IsLaidOut}
unfoldable pub use Rattle.pac_asm.specs.Layouts.{cells_below}
pub use Rattle.pac_asm.specs.Pairing.{is_found_line, pairing_after_word}
pub use Rattle.pac_asm.specs.Phase1.{after_item, after_judged, after_line, after_passed, after_statement, unless_left_open}
unfoldable pub use Rattle.pac_asm.specs.Phase1.{after_text, phase1}
pub use Rattle.pac_asm.specs.Phase2.{code_of_fault, line_at_place, line_of}
unfoldable pub use Rattle.pac_asm.specs.Phase2.{phase2}
pub use Rattle.pac_asm.specs.PlacedItems.{AllLie, Lies}
unfoldable pub use Rattle.pac_asm.specs.Programs.{program_of}
unfoldable pub use Rattle.pac_asm.specs.Reading.{form_of_line}
pub use Rattle.pac_asm.specs.Results.{result_of_line, ◌>>=◌}
pub use Rattle.pac_asm.specs.Skipping.{IsLeftOutIfSkipped, IsPassedOver, SkippedLinesAreLeftOut, SkippedLinesDoNothing}
unfoldable pub use Rattle.pac_asm.specs.Skipping.{after_texts}
pub use Rattle.pac_asm.specs.Standings.{Standing, first_standing, is_new, is_taken, overlaps, place_covers, room_for, span_covers}
pub use Rattle.pac_asm.specs.Standings.{value_above, with_label, within_rom}
pub use Rattle.pac_asm.specs.Unclosed.{conditional_of_line, is_never_closed, stays_open}
pub use Rattle.pac_asm.specs.UnclosedProofs.{first_unclosed}
pub use Rattle.pac_asm.specs.declared.condition.IfState.{IfState}
pub use Rattle.pac_asm.specs.declared.condition.IfState.TheVariants.{Met, Otherwise, Over, Passed, Unmet}
pub use Rattle.pac_asm.specs.declared.fault.AsmCode.{AsmCode}
pub use Rattle.pac_asm.specs.declared.fault.AsmCode.TheVariants.{Syntax, Token, TooDeep}
pub use Rattle.pac_asm.specs.declared.fault.AsmError.{AsmError}
pub use Rattle.pac_asm.specs.declared.fault.AsmFault.{AsmFault}
pub use Rattle.pac_asm.specs.declared.fault.LineError.{LineError}
pub use Rattle.pac_asm.specs.declared.lines.Pairing.{Pairing}
pub use Rattle.pac_asm.specs.declared.place.LineLayout.{LineLayout}
pub use Rattle.pac_asm.specs.declared.place.LineLayout.TheVariants.{Blank, Placed, Skipped}
pub use Rattle.pac_asm.specs.declared.place.Span.{Span}
pub use Rattle.pac_asm_line.specs.declared.conditional.Conditional.{Conditional}
pub use Rattle.pac_asm_line.specs.declared.conditional.Conditional.TheVariants.{Else, EndIf, If}
pub use Rattle.pac_asm_program.specs.declared.line.Line.{Line}
pub use Rattle.pac_code.specs.Items.{Content}
pub use Rattle.pac_expr.proofs.Undefined.{told}
pub use Rattle.pac_lemmas.proofs.Lists.{slice_get-after}
pub use Rattle.pac_lemmas.proofs.Options.{Err-is-no-Ok, same-Ok}
pub use Rattle.pac_lemmas.proofs.Ranges.{fails-in-range, part-map-range}
pub use Rattle.pac_lemmas.proofs.Searches.{list_any-map}
pub use Rattle.pac_lex.proofs.LineLaws.{tokens-read}
pub use Rattle.pac_lex.proofs.Prefixes.{prefix-of-all}
pub use Rattle.pac_lex.specs.declared.fault.LexFault.{LexFault}
pub use Rattle.pac_lex.specs.declared.token.TokenKind.{TokenKind}
pub use Rattle.std.proofs.Common.{codes}
pub use Rattle.std.proofs.Math.Bool.{or-false}
pub use Rattle.std.proofs.lemmas.Bool.{both_ways, or_left, or_right}
pub use Rattle.std.proofs.lemmas.List.{length-reverse}
pub use Rattle.std.proofs.lemmas.List.Elements.{All-push}
pub use Rattle.std.specs.Ordering.{int_eq}
pub use Rattle.std.specs.Prelude.{slice_get}
