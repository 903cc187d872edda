-- The words that proofs here, and those of crates above, import of definitions, of std and of the crates below.

pub use Rattle.pac_asm_program.proofs.Common.{Symbol, to_z-of_z, w32, ℤ}
pub use Rattle.pac_lex.proofs.Common.{Some, common_steps, eqb-false, eqb-true, lines, ◌∷◌}
pub use Rattle.pac_out.proofs.Common.{Gathers, List, Refuses, [], arith, drop, drop_more, err_from_is_err_and, flat_map, length, refl}
pub use Rattle.pac_out.proofs.Common.{rules, subst, sym, ℕ, ◌++◌, ◌+◌, ◌<◌, ◌∙◌, ◌≡◌}
pub use Rattle.pac_asm_program.specs.declared.line.Line.{Line}
pub use Rattle.pac_listing.specs.Listing.{all_rows, first_row, further_row, item_rows, next_row_address, symbol_rows}
unfoldable pub use Rattle.pac_listing.specs.Listing.{further_rows, line_rows, lines_from, listing, symbol_row}
pub use Rattle.pac_num.specs.Columns.{row_bytes}
unfoldable pub use Rattle.pac_num.specs.Columns.{byte_columns}
unfoldable pub use Rattle.pac_num.specs.Hexadecimal.{hex_word}
pub use Rattle.pac_out.proofs.Gathering.{Leaves, gathers-both, gathers-within, leaves-less, leaves-nothing, leaves-refused}
pub use Rattle.std.proofs.Common.{SFits, slice_get}
pub use Rattle.std.proofs.lemmas.Option.{get_or_from_slice_get, slice_get_within}
pub use Rattle.std.specs.Prelude.{codes}
