-- The words that proofs here, and those of crates above, import of definitions, of std and of the crates below.

pub use Rattle.pac_lemmas.proofs.Common.{Bool, Err, List, None, Ok, Option, Result, Some, [], add-one, and_parts, and_right, ap, arith}
pub use Rattle.pac_lemmas.proofs.Common.{at_drop_more, cases_Bool, cases_lt, common_steps, cond, cond-false, cond-true, drop, drop-drop}
pub use Rattle.pac_lemmas.proofs.Common.{drop_more, eq-eqb, eqb-true, false, filter, fold, get_or, inl, inr, is_ascii_digit, le-ltb}
pub use Rattle.pac_lemmas.proofs.Common.{le_trans, length, length-append, length-drop, lines, list_all, lookup, lt-ltb, ltb, ltb-true}
pub use Rattle.pac_lemmas.proofs.Common.{nat_tests, ne_eqb, not, not-true, one-add, option_map, position, position_or_len, prefix_len, refl}
pub use Rattle.pac_lemmas.proofs.Common.{rules, slice_split, subst, suc, sym, take, take-append-drop, take_all, true, true≢false, zero, ℕ}
pub use Rattle.pac_lemmas.proofs.Common.{◌&&◌, ◌*◌, ◌++◌, ◌+◌, ◌-◌, ◌<◌, ◌||◌, ◌∙◌, ◌∷◌, ◌≡◌, ◌≢◌, ◌≤◌, ◌⊎◌}
pub use Rattle.memchr.specs.Find.{IsFirstByte}
pub use Rattle.pac_lemmas.proofs.Options.{none-or-some}
pub use Rattle.pac_lemmas.proofs.Parts.{first-part, part-more, part-stops, part_end, parts_after}
pub use Rattle.pac_lemmas.proofs.Searches.{list_all-prefix}
pub use Rattle.pac_lex.specs.Bytes.{after_gap, is_blank, is_comment_start, is_name_byte, is_name_start, is_printable, is_quote}
pub use Rattle.pac_lex.specs.Codes.{lex_fault_code}
pub use Rattle.pac_lex.specs.Numbers.{number_in_base, numeral, value_of_digit}
pub use Rattle.pac_lex.specs.OneReading.{EachLineHasOneReading, TextsHaveTheirCharacters}
pub use Rattle.pac_lex.specs.Results.{◌>>=◌}
pub use Rattle.pac_lex.specs.Scan.{FoundToken, LexingGives, OnLexFault, cut_token, is_end, numeral_token, one_byte_token, quoted_token}
pub use Rattle.pac_lex.specs.Scan.{token_before}
unfoldable pub use Rattle.pac_lex.specs.Scan.{name_token_at, number_token_at, scan, text_token_at, token_at, tokens_of}
pub use Rattle.pac_lex.specs.Texts.{quoted_character, quoted_text}
pub use Rattle.pac_lex.specs.TextsProofs.{after_character, characters_of, closing_length, one_character}
unfoldable pub use Rattle.pac_lex.specs.TextsProofs.{unquoted_characters}
pub use Rattle.pac_lex.specs.Tokens.{Breaks, HasLexFault, IsRead, IsToken, IsTokenFault, Lexeme, ReadsTokens, TokenFirst, begins}
pub use Rattle.pac_lex.specs.Tokens.{begins_nothing, is_af, one_byte_kind, one_byte_kinds}
pub use Rattle.pac_lex.specs.TokensProofs.{view, views}
pub use Rattle.pac_lex.specs.Words.{first_word, words_of_line}
pub use Rattle.pac_lex.specs.declared.fault.LexError.{LexError}
pub use Rattle.pac_lex.specs.declared.fault.LexFault.{LexFault}
pub use Rattle.pac_lex.specs.declared.fault.LexFault.TheVariants.{LongLine, NoToken, OpenText, WrongNumber}
pub use Rattle.pac_lex.specs.declared.token.Token.{Token}
pub use Rattle.pac_lex.specs.declared.token.TokenKind.{TokenKind}
pub use Rattle.pac_lex.specs.declared.token.TokenKind.TheVariants.{AlternateAf, Name, Number, Text}
pub use Rattle.std.proofs.Common.{IfErr, IfOk, append-nil, append_assoc, eqb, flat_map, mul-le-mul_left}
pub use Rattle.std.proofs.lemmas.Bool.{eqb-false, false_from_ne_true}
pub use Rattle.std.proofs.lemmas.List.{drop_at, take_at, take_rest}
pub use Rattle.std.proofs.lemmas.List.Splits.{length-slice_split, slice_split_first, slice_split_none}
pub use Rattle.std.proofs.lemmas.List.Sums.{position_or_len_is, prefix_len_passes}
pub use Rattle.std.proofs.lemmas.Option.{cond_some, none-some, same_Some}
pub use Rattle.std.proofs.lemmas.Result.{IfOk-weaker}
pub use Rattle.std.specs.Char.{is_ascii_alphanumeric}
pub use Rattle.std.specs.List.{after_first, before_first}
pub use Rattle.std.specs.Prelude.{Vec}
pub use Rattle.std.specs.Str.Lines.{lines_of_parts, strip_carriage_return}
