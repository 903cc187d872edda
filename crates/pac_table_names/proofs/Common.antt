-- The words that proofs here, and those of crates above, import of definitions, of std and of the crates below.

pub use Rattle.pac_lemmas.proofs.Common.{Bool, List, [], and_parts, ap, arith, bytes_eq, cases_Bool, cond-false, cond-true, drop, eqb-true}
pub use Rattle.pac_lemmas.proofs.Common.{false, false≢true, filter, find, get_or, get_or-map-range_with_len, if◌then◌else◌, inl, inr}
pub use Rattle.pac_lemmas.proofs.Common.{leb-true, length, length-map, list_all, list_any, ltb-true, map, nat_lt, nat_tests, not, option_or}
pub use Rattle.pac_lemmas.proofs.Common.{range_with_len, refl, slice_get, slice_index, str_to_ascii_lowercase, subst, suc, sym, take}
pub use Rattle.pac_lemmas.proofs.Common.{to_ascii_lowercase, true, unwrap_or, zero, ℕ, ◌&&◌, ◌+◌, ◌-◌, ◌<◌, ◌==◌, ◌||◌, ◌∙◌, ◌∷◌, ◌≡◌, ◌≤◌}
pub use Rattle.pac_table.proofs.Common.{None, Option, Some, agree_below, agree_below_at, names_of, nat_le, position}
unfoldable pub use Rattle.pac_table.proofs.Common.{row_at, row_count, table}
pub use Rattle.pac_lemmas.proofs.Distinct.{distinct-by-test}
unfoldable pub use Rattle.pac_lemmas.proofs.Distinct.{is_distinct}
pub use Rattle.pac_lemmas.proofs.Letters.{same-first-letter}
pub use Rattle.pac_lemmas.proofs.Options.{none-parts}
pub use Rattle.pac_lemmas.proofs.Searches.{find-filter, find-passes, list_all-get_or, list_any-find, list_any-map, position-all-fail}
pub use Rattle.pac_table.specs.declared.operands.Mnemonic.{Mnemonic}
pub use Rattle.pac_table.specs.declared.operands.Name.{Name}
pub use Rattle.pac_table.specs.declared.table.Row.{Row}
pub use Rattle.pac_table_names.specs.ByName.{AreNamed, family_in, rows_named_from}
unfoldable pub use Rattle.pac_table_names.specs.ByName.{family_value, rows_named}
pub use Rattle.pac_table_names.specs.Distinct.{OperationNamesAreDistinct}
pub use Rattle.pac_table_names.specs.Names.{is_name_at, is_written, listed_shapes, name_texts, names_in, present_shape, text_of_name}
pub use Rattle.pac_table_names.specs.Names.{value_named, written_operands}
unfoldable pub use Rattle.pac_table_names.specs.Names.{is_operation, name_of}
unfoldable pub use Rattle.pac_table_names.specs.Words.{operation_names}
pub use Rattle.pac_table_names.specs.WordsProofs.{begins_name, begins_with, every_name, is_text, letters_of, rows_of}
unfoldable pub use Rattle.pac_table_names.specs.WordsProofs.{letter_list, row_list, word_list}
pub use Rattle.pac_table_names.specs.declared.by_name.Word.{Word}
pub use Rattle.std.proofs.Common.{slice_range}
pub use Rattle.std.proofs.lemmas.Slice.Eq.{bytes_eq-Decides}
pub use Rattle.std.specs.Char.{is_ascii_uppercase, to_ascii_uppercase}
pub use Rattle.std.specs.Option.{option_copied}
pub use Rattle.std.specs.Prelude.{is_some}
