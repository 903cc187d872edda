-- The words that proofs here, and those of crates above, import of definitions, of std and of the crates below.

pub use Rattle.pac_block.proofs.Common.{BoardState, BoardValue, BoardView, Bool, Cut, Ends, Err, Fields, FindsFields, Goes, HoldInputs}
pub use Rattle.pac_block.proofs.Common.{Image, IsBlock, IsTimely, LetTimePass, List, MayRun, Moment, Next, None, Ok, Option, Output, Parts}
pub use Rattle.pac_block.proofs.Common.{PowerOn, ResetNow, Show, Some, Sound, Stop, TakeFile, TimeCanBeCut, TookAll, Walk, [], accepts, ap}
pub use Rattle.pac_block.proofs.Common.{append_assoc, arith, board_after_exec, board_of_file, body, by, by_view, digest_of, drop}
pub use Rattle.pac_block.proofs.Common.{due_outputs, due_with, ended-whole, err_from_is_err_and, false, flat_map, flat_map-one-more, get_or}
pub use Rattle.pac_block.proofs.Common.{going-steps, image_of, inl, inr, length, loaded_board, nat_tests, nothing_due, open-goes-on}
pub use Rattle.pac_block.proofs.Common.{outputs_given, picture_count, power_on_board, ran_of, read_of, refl, restored_board, rules}
pub use Rattle.pac_block.proofs.Common.{samples_due, samples_given, sealed_file, size-of, sound_count, sounding_refused, sounding_took}
pub use Rattle.pac_block.proofs.Common.{state_in, state_left, state_of, step, step-timely, steps_counted, subst, suc, sym, tabulate-is}
pub use Rattle.pac_block.proofs.Common.{take, take_all, time_of, true, upgraded_board, version_in, walk_at_start, walks-are-timed}
pub use Rattle.pac_block.proofs.Common.{wrapped_address, written_version, zero, ℕ, ℤ, ◌*◌, ◌++◌, ◌+◌, ◌-◌, ◌<◌, ◌^◌, ◌∙◌, ◌∷◌, ◌≡◌, ◌≢◌}
pub use Rattle.pac_block.proofs.Common.{◌≤◌, ◌⊎◌}
unfoldable pub use Rattle.pac_block.proofs.Common.{block_text, set_of_roms}
pub use Rattle.pac_board.proofs.Common.{BoardPasses, BoardWatched, Giving, HasGoneUntil, IsOfferRefused, IsOnTheWay, IsStepRefused, StepsOn}
pub use Rattle.pac_board.proofs.Common.{append-nil, board_after_step, board_after_walk, is_some, is_stop, late-has-ended, latest, next_of}
pub use Rattle.pac_board.proofs.Common.{not-both, on-the-way, once_at, once_of_board, outputs_in, stop_of_once, way, way_at, with_due, ◌&&◌}
pub use Rattle.pac_board.proofs.Common.{◌||◌}
pub use Rattle.pac_block.proofs.Sounding.{are-written, due-pictures, due-sounds, none-refused, pictures-append, samples-append}
pub use Rattle.pac_block.proofs.Sounding.{sounds-append}
pub use Rattle.pac_block.proofs.Stops.{left-in-parts, stopped-early}
pub use Rattle.pac_block.proofs.TimeParts.{head-is, told-samples}
pub use Rattle.pac_block.specs.declared.codes.HostFault.{HostFault}
pub use Rattle.pac_block.specs.declared.codes.HostFault.TheVariants.{Closed, NoBoard, NoFile, NoRoom, TooLong, WrongLength}
pub use Rattle.pac_block.specs.declared.ran.PacRan.{PacRan}
pub use Rattle.pac_block.specs.declared.sounds.Sounds.{Sounds}
pub use Rattle.pac_board.proofs.Pieces.{steps-are-parts, walk-on-the-way}
pub use Rattle.pac_board.proofs.Roads.{met-nothing}
pub use Rattle.pac_board.proofs.Sinks.{cut-after, cut-along, took-both}
pub use Rattle.pac_board.proofs.Turns.{run-later}
pub use Rattle.pac_board.specs.Access.{Access}
pub use Rattle.pac_board.specs.declared.fault.Fault.{Fault}
pub use Rattle.pac_board.specs.declared.fault.Fault.TheVariants.{Refused, TooFar}
pub use Rattle.pac_board_model.proofs.Runs.{walk-below}
pub use Rattle.pac_live.specs.CutLaws.{AnyCutsAreOneTime, GiveInTime, GoUntil, MakeStep, PassTime, TimeCall, asked_by}
pub use Rattle.pac_live.specs.Handle.{live_with_board}
pub use Rattle.pac_live.specs.Lent.{IsLent}
pub use Rattle.pac_live.specs.Live.{BoardCall, IsMadeOn, Lives}
pub use Rattle.pac_live.specs.LiveCodes.{until_of}
pub use Rattle.pac_live.specs.LiveFiles.{HasTakenFile, Loading}
pub use Rattle.pac_live.specs.LiveLaws.{LiveCallsAreOfOneBoard}
unfoldable pub use Rattle.pac_live.specs.LiveLook.{bytes_read_of}
pub use Rattle.pac_live.specs.LiveMemory.{live_memory, live_owns, live_seal, live_size}
pub use Rattle.pac_live.specs.LiveStep.{outputs_of_one, stop_of_next}
pub use Rattle.pac_live.specs.LiveTime.{HasRunOn, RunFails}
pub use Rattle.pac_live.specs.LiveUntil.{EndsBy, HasComeTo, HasMet, IsGoneOn, IsMap, PassesPlaces, WentBy, watch_map}
pub use Rattle.pac_live.specs.LiveUntils.{IsGone, WalksBy, WalksOn}
pub use Rattle.pac_live.specs.declared.live.PacLive.{PacLive}
pub use Rattle.pac_live.specs.declared.live_until.Ended.{Ended}
pub use Rattle.pac_live.specs.declared.live_until.Ended.TheVariants.{AtAccess, AtPlace, AtStop, BufferFull, TimeOver}
pub use Rattle.pac_live.specs.declared.live_until.PacUntil.{PacUntil}
pub use Rattle.pac_state.specs.declared.fault.LoadFault.{LoadFault}
pub use Rattle.std.proofs.Common.{w64}
pub use Rattle.std.specs.Prelude.{nat_le}
