-- The words that proofs here, and those of crates above, import of definitions, of std and of the crates below.

pub use Rattle.pac_board.proofs.Common.{BoardState, BoardValue, BoardView, Bool, Cut, Ends, Entry, Err, Executes, Fields, Goes, Hold}
pub use Rattle.pac_board.proofs.Common.{HoldWhatTheyCan, Image, IsPicture, IsTimely, IsWhole, Latched, List, Moment, Next, None, Ok, Option}
pub use Rattle.pac_board.proofs.Common.{Output, Parts, Result, Show, Some, Sound, StepProgress, TimeCanBeCut, TookAll, View, Walk, [], ap}
pub use Rattle.pac_board.proofs.Common.{append_assoc, arith, at_moment, blank_event, board_after, board_after_reset, board_after_run, by}
pub use Rattle.pac_board.proofs.Common.{by_view, common_steps, course, course_at, drop, drop-append_seam, due_outputs, due_with}
pub use Rattle.pac_board.proofs.Common.{ended-whole, err_from_is_err_and, false, frame_steps, frame_ticks, get_or, goes-on, going-steps}
pub use Rattle.pac_board.proofs.Common.{has_ended, held_with, held_without, image_of, inl, inr, length, line_event, map, map-append, mask}
pub use Rattle.pac_board.proofs.Common.{most_asked, nat_le, nat_tests, next_frame, nothing_due, onward_if, open-goes-on, outputs_given}
pub use Rattle.pac_board.proofs.Common.{picture_count, power_on_accumulators, power_on_board, power_on_board_view, power_on_moment, read_of}
pub use Rattle.pac_board.proofs.Common.{refl, replicate, restored_board, rules, run_ticks, sample_event, slice_index_or, sound_count}
pub use Rattle.pac_board.proofs.Common.{state_of, step, step-timely, steps_counted, subst, suc, sym, take, take-append_seam, time_of, trace}
pub use Rattle.pac_board.proofs.Common.{true, video_memory, view_of_fields, walk, walk_after_step, walk_at_start, walk_to, with_frame, zero}
pub use Rattle.pac_board.proofs.Common.{ℕ, ℤ, ◌++◌, ◌+◌, ◌-◌, ◌<◌, ◌^◌, ◌∙◌, ◌∷◌, ◌≡◌, ◌≤◌, ◌⊎◌}
unfoldable pub use Rattle.pac_board.proofs.Common.{palette_of}
pub use Rattle.pac_board_model.proofs.Common.{IsWalkTimed, black-picture, ext_get_or, sample_ticks}
pub use Rattle.pac_lemmas.proofs.Common.{range_with_len, to_z-of_z}
pub use Rattle.pac_picture.proofs.Common.{Each1-from_get_or, SwzOk, SwzOk-from_below, VideoMemory, VideoRoms, cases_lt, get_or-append_right}
pub use Rattle.pac_picture.proofs.Common.{get_or-chunk, get_or-map, get_or-swz_l_below, get_or-tabulate, get_or_append_left, get_or_default}
pub use Rattle.pac_picture.proofs.Common.{length-map, length-set, length-tabulate, pos, rgb_of, slice_index, swz_l, w8}
unfoldable pub use Rattle.pac_picture.proofs.Common.{picture_line}
pub use Rattle.pac_state.proofs.Common.{FindsFields, IsBlock, IsFile, IsFrontOf, IsState, Saves, board_of_file, body, bytes_at_place}
pub use Rattle.pac_state.proofs.Common.{digest_of, drop-drop, file_front, file_size, flat_map, flat_map-append, flat_map-one-more}
pub use Rattle.pac_state.proofs.Common.{from_le_bytes-to_le_bytes_4, get_or-drop, if◌then◌else◌, joined_pieces, length-append, length-drop}
pub use Rattle.pac_state.proofs.Common.{length-take-le, loaded_board, min, no_digest, sealed_file, state_in, tabulate-is, tabulate-same}
pub use Rattle.pac_state.proofs.Common.{take-add, take-append-drop, upgraded_board, version_in, written_version, ◌*◌, ◌/◌, ◌==◌, ◌≢◌}
unfoldable pub use Rattle.pac_state.proofs.Common.{block_text, devices, head, ram, sha1, tabulate}
pub use Rattle.pac_block.specs.Codes.{Answers, code_of, ran_of}
unfoldable pub use Rattle.pac_block.specs.Codes.{ran_bytes}
pub use Rattle.pac_block.specs.Films.{AllFramesAreDone, FollowedBy, FrameCalls, HasRoom, HostsPlayTheFilm, IsBetweenFrames, IsFrameAnswered}
pub use Rattle.pac_block.specs.Films.{IsHostFrame, Player, PlaysFrames, all_inputs, heard, pictures_given, ran_read, rgba_of_image, seen}
pub use Rattle.pac_block.specs.Handed.{HasFront, MayRun, StopsEarly}
pub use Rattle.pac_block.specs.Host.{Becomes, Draws, ExecFails, Execs, HasBecome, HasExecuted, HasLoaded, IsBlockOf, LoadFails, TellsRun}
pub use Rattle.pac_block.specs.Host.{asked_in, asked_left, board_after_exec, board_holding, board_in, least_asked, most_samples}
pub use Rattle.pac_block.specs.Host.{opaque_pixel, rgba_size, roms_size, room_of, samples_due, samples_given, state_left}
unfoldable pub use Rattle.pac_block.specs.Host.{bytes_read, rgba_of, set_of_roms}
pub use Rattle.pac_block.specs.HostLaws.{AreCallsOfBoard, AreDone, BlocksAreOneBoard, HoldInputs, HostCall, HostTimeCanBeCut, IsCallDone}
pub use Rattle.pac_block.specs.HostLaws.{IsCallOfBoard, IsNotBehind, KeepsUp, LetTimePass, OneStepAtMost, PowerOn, ResetNow, RoomIsBounded}
pub use Rattle.pac_block.specs.HostLaws.{StopsAreMetAgain, TakeFile, stop_told}
pub use Rattle.pac_block.specs.Passed.{composed_lines, picture_offset, recomposed_state, state_with_lines, upgraded_state}
pub use Rattle.pac_block.specs.RoomLaws.{AreDoneOver, NoneTakesAFile, RoomIsEnough, TakesNoFile}
pub use Rattle.pac_block.specs.Sounding.{IsSameBuffer, sounding_refused, sounding_room, sounding_took}
pub use Rattle.pac_block.specs.Woven.{woven}
unfoldable pub use Rattle.pac_block.specs.Woven.{coloured}
pub use Rattle.pac_block.specs.declared.codes.HostFault.{HostFault}
pub use Rattle.pac_block.specs.declared.codes.HostFault.TheVariants.{NoBoard, NoFile, NoRoom, TooLong, WrongLength}
pub use Rattle.pac_block.specs.declared.ran.PacRan.{PacRan}
pub use Rattle.pac_block.specs.declared.sounds.Sounds.{Sounds}
pub use Rattle.pac_board.proofs.Sinks.{took-more}
pub use Rattle.pac_board.proofs.Walked.{walked-after}
pub use Rattle.pac_board.specs.Stop.{Stop}
pub use Rattle.pac_board.specs.declared.fault.Fault.{Fault}
pub use Rattle.pac_board.specs.declared.fault.Fault.TheVariants.{Refused, TooFar}
pub use Rattle.pac_board_model.proofs.Agreed.{runs-agree}
pub use Rattle.pac_board_model.proofs.Runs.{runs-end, runs-go-by-frames, walk-near}
pub use Rattle.pac_board_model.proofs.RunsKeep.{blanked-holds, is_quiet, plain-walk-told, sampled-holds}
pub use Rattle.pac_board_model.proofs.WalkTimes.{walks-are-timed}
pub use Rattle.pac_board_model.proofs.Walks.{open-is-late, play-timely, stopped-is-early, walk-ends, walk-to-ends}
pub use Rattle.pac_cpu.specs.Power.{power_on_regs, reset_regs}
pub use Rattle.pac_num.specs.Numbers.{wrapped_address}
pub use Rattle.pac_out.specs.Buffers.{buffer_refused, buffer_took}
pub use Rattle.pac_out.specs.declared.WriteFault.{WriteFault}
pub use Rattle.pac_out.specs.declared.buffer.HostBuffer.{HostBuffer}
pub use Rattle.pac_picture.proofs.Composed.{length-line_of, line-below, picture-is}
pub use Rattle.pac_state.proofs.Files.{accepts}
pub use Rattle.pac_state.proofs.Framing.{block-again, is-block}
pub use Rattle.pac_state.proofs.Fronts.{file-size, front-changed, front-of-zeros, lines-of-zeros}
pub use Rattle.pac_state.proofs.Taken.{size-of}
pub use Rattle.pac_state.proofs.Whole.{part-add}
pub use Rattle.pac_state.proofs.Written.{length-front}
pub use Rattle.pac_state.specs.declared.fault.LoadFault.{LoadFault}
pub use Rattle.std.proofs.Common.{reverse, take_all}
pub use Rattle.std.proofs.Math.Seq.{drop-cons}
pub use Rattle.std.proofs.lemmas.List.{drop-set-lt, take_more_set}
pub use Rattle.std.proofs.lemmas.Simd.{length-swz_l, pick_l_whole}
pub use Rattle.std.specs.Int.Bits.{and_zero_r, or_zero_l}
