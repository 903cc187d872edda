-- The words that proofs here, and those of crates above, import of definitions, of std and of the crates below.

pub use Rattle.pac_lemmas.proofs.Common.{Bool, Bor, Err, List, None, Option, Result, Some, [], append-nil, arith, at_drop_more, cases_Bool}
pub use Rattle.pac_lemmas.proofs.Common.{common_steps, cons_option, drop, err_from_is_err_and, false, get_or, inl, inr, is_some, length}
pub use Rattle.pac_lemmas.proofs.Common.{length-append, map, map-append, option_map, refl, rules, suc, take, true, zero, ℕ, ◌++◌, ◌+◌, ◌<◌}
pub use Rattle.pac_lemmas.proofs.Common.{◌∙◌, ◌∷◌, ◌≡◌, ◌≤◌, ◌⊎◌}
pub use Rattle.pac_lemmas.proofs.Options.{both-none, none-parts}
pub use Rattle.pac_lemmas.proofs.Pieces.{filter_map-one-more}
pub use Rattle.pac_roms.specs.Parts.{program_size}
pub use Rattle.pac_roms_manifest.specs.Entries.{PlainEntry}
pub use Rattle.pac_roms_manifest.specs.Manifests.{document_table, entry_form, entry_of_part, file_of_part, program_form, ◌>>=◌}
unfoldable pub use Rattle.pac_roms_manifest.specs.Manifests.{manifest_of}
pub use Rattle.pac_roms_manifest.specs.Parts.{parts_in_order, rom_part_size}
pub use Rattle.pac_roms_manifest.specs.Results.{ReadsAs, ReadsValue, SetGives}
pub use Rattle.pac_roms_manifest.specs.Sets.{bytes_named, code_of_part, fault_at, fault_of_set, file_fault, first_answer, is_unnamed}
pub use Rattle.pac_roms_manifest.specs.Sets.{needs_table, parts_of_set, program_bytes, two_programs_fault, unnamed_fault}
unfoldable pub use Rattle.pac_roms_manifest.specs.Sets.{rom_part_bytes, set_of}
pub use Rattle.pac_roms_manifest.specs.declared.fault.ManifestCode.TheVariants.{Unnamed}
pub use Rattle.pac_roms_manifest.specs.declared.manifest.Manifest.{Manifest}
pub use Rattle.pac_roms_manifest.specs.declared.part.Part.{Part}
pub use Rattle.pac_roms_manifest.specs.declared.part.PartName.{PartName}
pub use Rattle.pac_roms_manifest.specs.declared.part.PartName.TheVariants.{Program1}
pub use Rattle.pac_roms_manifest.specs.declared.reading.Misread.{Misread}
pub use Rattle.std.proofs.Common.{IfSome}
pub use Rattle.std.proofs.lemmas.Str.{IsUtf8-from_is_utf8, is_utf8-from_IsUtf8}
pub use Rattle.std.specs.Option.{option_or}
pub use Rattle.std.specs.Prelude.{IsUtf8, filter_map, option_and_then, option_copied, unwrap_or}
pub use Rattle.toml.specs.Data.{Data, Members, array}
unfoldable pub use Rattle.toml.specs.Parse.{parse_document}
pub use Rattle.toml.specs.View.{items_view, view}
pub use Rattle.toml.specs.declared.value.Value.{Value}
