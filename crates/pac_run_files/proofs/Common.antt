-- The words that proofs here, and those of crates above, import of definitions, of std and of the crates below.

pub use Rattle.pac_lemmas.proofs.Common.{Bool, Bor, Err, List, None, Ok, Option, Result, Some, [], ap, append-nil, arith, bytes_eq, drop}
pub use Rattle.pac_lemmas.proofs.Common.{false, get_or, if◌then◌else◌, inl, inr, length, list_any, map, nat_tests, option_map, refl, rules}
pub use Rattle.pac_lemmas.proofs.Common.{subst, suc, sym, take, take-append-drop, true, zero, ℕ, ◌++◌, ◌+◌, ◌<◌, ◌==◌, ◌||◌, ◌∙◌, ◌∷◌, ◌≡◌}
pub use Rattle.pac_lemmas.proofs.Common.{◌≢◌, ◌≤◌}
pub use Rattle.pac_lemmas.proofs.Booleans.{or-false}
pub use Rattle.pac_lemmas.proofs.Pieces.{map-one-more, map-split}
pub use Rattle.pac_run_files.specs.Files.{AllBegun, FindsFile, FirstUnbegun, FirstUnread, Handling, IsUnread, MayFind, WantedFile}
pub use Rattle.pac_run_files.specs.Files.{WantedOutput, before_slash, begins_by, drafted, folder_of, lets_go_by, put_before, standing_by}
pub use Rattle.pac_run_files.specs.Links.{FindsLink, Leads, LeadsOn, Way, way_along, way_from}
pub use Rattle.pac_run_files.specs.LinksProofs.{Follows, IsReached, MeetsPart, is_joined, links_past, parts_left, way_of_place}
pub use Rattle.pac_run_files.specs.Names.{climbs, is_within_folder, lengthen, name_parts, slash, told_character}
pub use Rattle.pac_run_files.specs.Read.{HasIfNamed, HasParts, IsPart, PartUnread, manifest_part_names, part_files, played_files, told_file}
pub use Rattle.pac_run_files.specs.Read.{told_part, watched_files}
pub use Rattle.pac_run_files.specs.ReadProofs.{ReadsFiles}
pub use Rattle.pac_run_files.specs.declared.files.FileKind.TheVariants.{Plain}
pub use Rattle.pac_run_files.specs.declared.given.ReadFault.{ReadFault}
pub use Rattle.pac_run_files.specs.declared.given.ReadFault.TheVariants.{Memory, Unreadable}
pub use Rattle.pac_run_files.specs.declared.links.PlaceReached.{PlaceReached}
pub use Rattle.pac_run_files.specs.declared.parts.NamedFile.{NamedFile}
pub use Rattle.std.proofs.Common.{Global, MatchOption, String, Vec, codes, eqb, flat_map, map-id, string_bytes}
pub use Rattle.std.proofs.Output.{has_written_of_eq}
pub use Rattle.std.proofs.lemmas.Iterator.{YieldsList-from_chars}
pub use Rattle.std.proofs.lemmas.Iterator.Consumers.{YieldsList-end}
pub use Rattle.std.proofs.lemmas.Str.Pattern.{NoCharPasses-char, drop_at_char, split_parts}
pub use Rattle.std.specs.Fmt.{HasWritten, IsPlainFormatter}
pub use Rattle.std.specs.Str.Pattern.{RFindsChar}
