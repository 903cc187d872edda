-- The words that proofs here, and those of crates above, import of definitions, of std and of the crates below.

pub use Rattle.pac_board.specs.State.{IsStateInRange}
pub use Rattle.pac_board.proofs.Common.{AreBoardFields, BoardState, BoardValue, Bool, Err, Fields, InterruptMode, IsPicture, IsWellFormed}
pub use Rattle.pac_board.proofs.Common.{List, None, Ok, Option, Parts, Regs, Result, Some, [], ap, append_assoc, arith, binary_digit}
pub use Rattle.pac_board.proofs.Common.{common_steps, drop, drop-append_seam, err_from_is_err_and, false, get_or, inr, length, refl}
pub use Rattle.pac_board.proofs.Common.{replicate, restored_board, rules, state_of, subst, suc, sym, take, take-append_seam, true, unboxed}
pub use Rattle.pac_board.proofs.Common.{zero, ℕ, ℤ, ◌&&◌, ◌++◌, ◌+◌, ◌-◌, ◌<◌, ◌^◌, ◌∙◌, ◌∷◌, ◌≡◌, ◌≤◌, ◌⊎◌}
unfoldable pub use Rattle.pac_board.proofs.Common.{black}
pub use Rattle.pac_lemmas.proofs.Common.{drop-drop, eqb-true, flat_map-append, get_or-drop, if◌then◌else◌, length-append, length-drop}
pub use Rattle.pac_lemmas.proofs.Common.{length-take-le, min, not, take-append-drop, take_all, ⊎_elim, ◌*◌, ◌/◌, ◌==◌, ◌≢◌}
pub use Rattle.pac_out.proofs.Common.{HasTaken, MutBor, Puts, append-nil, flat_map, joined_pieces, lent_refused, lent_took, take-add}
pub use Rattle.pac_board.proofs.LatchBits.{bits_of-byte_of}
pub use Rattle.pac_board.proofs.LatchBytes.{byte_of-bits_of}
pub use Rattle.pac_board.proofs.Tabulated.{tabulate-is}
pub use Rattle.pac_board.specs.Due.{Due}
pub use Rattle.pac_lemmas.proofs.Pieces.{flat_map-one-more, flat_map-split}
pub use Rattle.pac_num.proofs.Tabulated.{tabulate-same}
unfoldable pub use Rattle.pac_num.specs.Tabulate.{tabulate}
pub use Rattle.pac_out.proofs.Files.{puts-after, refuses-after, refuses-within, takes-joined}
pub use Rattle.pac_out.specs.declared.WriteFault.{WriteFault}
pub use Rattle.pac_out.specs.declared.counted.Counted.{Counted}
pub use Rattle.pac_roms_manifest.specs.Sets.{digest_of}
pub use Rattle.pac_state.specs.Block.{IsBlock, no_digest}
unfoldable pub use Rattle.pac_state.specs.Block.{block_text}
pub use Rattle.pac_state.specs.Files.{AreWords, FitsSample, IsFile, IsState, board_of_file}
pub use Rattle.pac_state.specs.FilesLaws.{AcceptsFile, LoadsAgain}
pub use Rattle.pac_state.specs.FilesProofs.{Accepts}
pub use Rattle.pac_state.specs.Framed.{IsFramed, TellsFields}
pub use Rattle.pac_state.specs.Fronts.{IsFrontOf}
pub use Rattle.pac_state.specs.Reading.{bytes_at_place, controls_in, due_of, due_sample, lines_of, memory_of, mode_of, picture_in, regs_of}
pub use Rattle.pac_state.specs.Reading.{saved_word_at, state_in}
pub use Rattle.pac_state.specs.Saved.{AreWritten, IsText, Misses, RefusesFile, begins_with_magic, body_size, file_size, is_known}
pub use Rattle.pac_state.specs.Saved.{is_of_another_version, is_of_set, is_sealed, upgraded_board, version_in}
unfoldable pub use Rattle.pac_state.specs.Saved.{load_fault}
pub use Rattle.pac_state.specs.SavedLaws.{ReadsFile, loaded_board}
pub use Rattle.pac_state.specs.SavedProofs.{FindsFields, LoadsBoard}
pub use Rattle.pac_state.specs.Saves.{Saves}
pub use Rattle.pac_state.specs.Text.{body, file_front, magic, number_of_mode, save_text, saved_double_word, saved_long_word, saved_word}
pub use Rattle.pac_state.specs.Text.{sealed_file, written_version}
unfoldable pub use Rattle.pac_state.specs.Text.{control_bytes, devices, due_bytes, head, processor_bytes, ram}
pub use Rattle.pac_state.specs.declared.fault.LoadFault.{LoadFault}
pub use Rattle.pac_state.specs.declared.fault.LoadFault.TheVariants.{Damaged, NoMemory, NoState, OtherSet, OtherVersion, OutOfRange, Size}
pub use Rattle.pac_state.specs.declared.fault.LoadRefused.{LoadRefused}
unfoldable pub use Rattle.sha1.specs.Sha1.{digest_bytes, sha1}
pub use Rattle.std.proofs.Math.Dec.{eqb}
pub use Rattle.std.proofs.lemmas.Bool.Decides.{eqb_tells}
pub use Rattle.std.proofs.lemmas.List.{drop-replicate, replicate-append-replicate, take-replicate}
pub use Rattle.std.proofs.lemmas.Nat.{from_le_bytes-to_le_bytes_2, from_le_bytes-to_le_bytes_4, from_le_bytes-to_le_bytes_8, le_bytes_2}
pub use Rattle.std.proofs.lemmas.Nat.{le_bytes_4, le_bytes_8}
pub use Rattle.std.proofs.lemmas.Slice.Eq.{bytes_eq-Decides}
pub use Rattle.std.specs.Array.{IsFirstChunk}
pub use Rattle.std.specs.Int.{from_le_bytes, w16, w32, w64}
pub use Rattle.std.specs.Simd.{first_chunks}
