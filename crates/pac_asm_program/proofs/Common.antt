-- The words that proofs here, and those of crates above, import of definitions, of std and of the crates below.

pub use Rattle.pac_table.proofs.Common.{List, [], and_from, ap, arith, cases_Bool, cond-false, false, get_or, get_or-map-range_with_len}
pub use Rattle.pac_table.proofs.Common.{length, refl, subst, suc, sym, true, zero, ℕ, ℤ, ◌++◌, ◌+◌, ◌<◌, ◌∙◌, ◌∷◌, ◌≡◌, ◌≤◌}
pub use Rattle.indexmap.proofs.CallerLemmas.{insert_entry-new}
pub use Rattle.pac_asm_program.specs.Names.{Symbol, number_of_symbol, with_symbol}
pub use Rattle.pac_asm_program.specs.NamesProofs.{AreDistinct}
pub use Rattle.pac_asm_program.specs.Programs.{Assembled, items_in, items_of, rom_size}
pub use Rattle.pac_asm_program.specs.Rom.{byte_over, covers, rom_byte_at}
unfoldable pub use Rattle.pac_asm_program.specs.Rom.{rom_of}
pub use Rattle.pac_asm_program.specs.RomLaws.{ApartItemsLie, AreApart, IsApartFrom, IsFit}
pub use Rattle.pac_asm_program.specs.RomProofs.{IsZeroElsewhere}
pub use Rattle.pac_asm_program.specs.declared.line.Line.{Line}
pub use Rattle.pac_asm_program.specs.declared.line.Line.TheVariants.{Placed}
pub use Rattle.pac_code.specs.Items.{Item, bytes_in, bytes_of}
pub use Rattle.pac_lemmas.proofs.Lists.{get_or-after-put_mid, get_or-before-put_mid, get_or-in-put_mid, length-put_mid}
pub use Rattle.pac_lemmas.proofs.Options.{is_none-where-some, none-from-is_some}
pub use Rattle.std.proofs.Common.{None, Some, cond, drop, flat_map, is_none, is_some, leb, map, replicate, take, w32, ⊎_elim, ◌-◌}
pub use Rattle.std.proofs.lemmas.Bool.{and_left, and_right, cases_lt, cond-true, le-leb, le-ltb, lt-leb, lt-ltb, true≢false}
pub use Rattle.std.proofs.lemmas.Int.{to_z-of_z}
pub use Rattle.std.proofs.lemmas.List.{drop_all, drop_more, ext_get_or, get_or-drop, get_or-replicate, get_or-take, length-drop}
pub use Rattle.std.proofs.lemmas.List.{length-replicate, length-take-le}
pub use Rattle.std.proofs.lemmas.List.Elements.{All-head, All-tail}
pub use Rattle.std.proofs.lemmas.List.FromFn.{fill_by_all, length-map-range_with_len}
pub use Rattle.std.proofs.lemmas.List.Sums.{fold-append}
unfoldable pub use Rattle.std.specs.Hash.DefaultHasher.{write, write_byte}
pub use Rattle.std.specs.List.{All, AllByRecursion, range_with_len, slice_index}
unfoldable pub use Rattle.std.specs.List.{IsDistinct}
pub use Rattle.std.specs.Map.{keys_of, lookup}
pub use Rattle.std.specs.Prelude.{bytes_eq, if◌then◌else◌}
pub use Rattle.std.specs.declared.hash.DefaultHasher.{DefaultHasher}
