-- The words that proofs here, and those of crates above, import of definitions, of std and of the crates below.

pub use Rattle.pac_asm.proofs.Common.{AllLie, Assembled, Item, Lies, items_of, le-leb, ◌>>=◌}
pub use Rattle.pac_board_course.proofs.Common.{BoardState, BoardValue, BoardView, Bool, CourseValue, Cut, Entry, Err, Giving, HasItsFrames}
pub use Rattle.pac_board_course.proofs.Common.{Image, IsBoard, IsTimely, IsWhole, JoinsPlays, List, Moment, Next, None, Ok, Option, Output}
pub use Rattle.pac_board_course.proofs.Common.{Parts, Play, Result, ScriptFault, Show, Some, Sound, Stop, Stretch, TookAll, Walk, ap, arith}
pub use Rattle.pac_board_course.proofs.Common.{begun, blank_count, board_after_entries, board_asked, by, by_history, by_view, course_after}
pub use Rattle.pac_board_course.proofs.Common.{end_of, err_from_is_err_and, false, frame_microseconds, frame_samples, frame_steps}
pub use Rattle.pac_board_course.proofs.Common.{frame_ticks, frames_gone, held, held_after, held_in, if◌then◌else◌, inl, inr, latest}
pub use Rattle.pac_board_course.proofs.Common.{most_asked, most_frames, nat_le, nat_tests, next_in, onward_if, picture_count, play-timely}
pub use Rattle.pac_board_course.proofs.Common.{plays_joined, power_on_board, power_on_board_view, refl, resumed, resumed_end, resumed_start}
pub use Rattle.pac_board_course.proofs.Common.{resumed_step, rules, run_at, sample_ticks, script_of, sound_count, subst, suc, sym}
pub use Rattle.pac_board_course.proofs.Common.{total_frames, trace, true, walk, walk_view, way_on, zero, ℕ, ◌*◌, ◌++◌, ◌+◌, ◌-◌, ◌/◌, ◌<◌}
pub use Rattle.pac_board_course.proofs.Common.{◌∙◌, ◌≡◌, ◌≤◌}
pub use Rattle.pac_debug.proofs.Common.{IsOutcome, IsSessionWatched, IsWatchRefused, IsWatchUntold, Outcome, Scene, SessionValue, Setting}
pub use Rattle.pac_debug.proofs.Common.{TellsAll, WatchesSession, [], append-nil, append_assoc, common_steps, get_or, length, length-append}
pub use Rattle.pac_debug.proofs.Common.{lines, not, outputs_to_give, play_of, session_at_start, session_due_outputs, take, whole_run, ◌∷◌}
pub use Rattle.pac_media.proofs.Common.{Delivers, FinishesSound, HasStopped, HasTaken, HasText, Joins, Puts, SoundFails, Stops, StopsAfter}
pub use Rattle.pac_media.proofs.Common.{flat_map, flat_map-append, get_or_default, header_size, lent_refused, lent_took, map, pos}
pub use Rattle.pac_media.proofs.Common.{replicate, sample_room, sample_text, samples_text, stops-after, stops-within, to_z-of_z, w16, ◌^◌}
unfoldable pub use Rattle.pac_media.proofs.Common.{wav_header}
pub use Rattle.pac_roms_manifest.proofs.Common.{SetGives, cases_Bool, fault_of_set, option_map, parts_of_set}
unfoldable pub use Rattle.pac_roms_manifest.proofs.Common.{manifest_of, set_of}
pub use Rattle.pac_state.proofs.Common.{IsFile, IsState, MutBor, RefusesFile, board_of_file, refuses-within, save_text, written_version, ℤ}
pub use Rattle.pac_board_course.proofs.Agreed.{power-on-board, resumed-runs-agree, runs-agree}
pub use Rattle.pac_board_course.proofs.Begun.{courses-begin}
pub use Rattle.pac_board_course.proofs.HostCarried.{steps-agree}
pub use Rattle.pac_board_course.proofs.Outputs.{outputs-timed}
pub use Rattle.pac_board_course.proofs.Resumed.{plays-join, resumed-runs-end, runs-begin, stopped-runs-stay}
pub use Rattle.pac_board_course.proofs.ResumedTimes.{resumed-runs-are-timed, resumed-runs-have-their-frames}
pub use Rattle.pac_board_course.proofs.Runs.{walk-below}
pub use Rattle.pac_board_course.proofs.Sinks.{took-more}
pub use Rattle.pac_board_course.proofs.Taken.{refused-among}
pub use Rattle.pac_debug.proofs.HeldUp.{all-told, told-up-to}
pub use Rattle.pac_debug.specs.declared.line.CommandFault.{CommandFault}
pub use Rattle.pac_media.specs.CountedFile.{Counted}
pub use Rattle.pac_media.specs.WriteFault.{WriteFault}
pub use Rattle.pac_roms_manifest.specs.declared.fault.SetError.{SetError}
pub use Rattle.pac_roms_manifest.specs.declared.fault.SetFault.{SetFault}
pub use Rattle.pac_roms_manifest.specs.declared.manifest.Manifest.{Manifest}
pub use Rattle.pac_roms_manifest.specs.declared.part.Part.{Part}
pub use Rattle.pac_run.specs.Debugs.{Debugs, IsBrokenAt, IsSeenThrough, setting_of_plan}
pub use Rattle.pac_run.specs.DebugsProofs.{IsReady}
pub use Rattle.pac_run.specs.Films.{RefusedImage, RefusedSound, TookImage, TookSample, film_giving, film_refused, film_took}
pub use Rattle.pac_run.specs.Parts.{AreOneRun, JoinsFirst, RunsInParts, StoppedBefore, outcomes_joined, saved_board, with_script}
pub use Rattle.pac_run.specs.Plan.{IsStateRefused, Plan, listing_in, plan_with, program_in, set_in}
unfoldable pub use Rattle.pac_run.specs.Plan.{plan_of}
pub use Rattle.pac_run.specs.PlanProofs.{Judges, LieIn, PlaysProgram, fault_told, program_items, script_told, set_told}
pub use Rattle.pac_run.specs.Playing.{IsBrokenOff, IsPlayHeldUp, IsPlayed, Played, PlaysInto, course_playing, outcome_between, played}
pub use Rattle.pac_run.specs.Playing.{session_played, told_played, watched_by}
pub use Rattle.pac_run.specs.Recorded.{BreaksPlay, HasBegun, IsRunTo, RecordsPlay, Reel, RunsTo, WritesPlay, WritesRun, WritesSound}
pub use Rattle.pac_run.specs.Recorded.{WritesWholeText, course_contents, heard_by, reel, shown_by}
pub use Rattle.pac_run.specs.Resumes.{IsInOrder, IsSaveCutAt, Resumes, WithFirstBoard, contents_from, end_state, frames_asked, last_state}
pub use Rattle.pac_run.specs.Resumes.{outcome_since, resumed_of, run_from, run_of_play, state_text, without_history}
pub use Rattle.pac_run.specs.Run.{FramesStop, IsCutAt, IsRunWhole, IsUnwritten, NothingWritten, RunContents, Runs, StopsInText, TakesText}
pub use Rattle.pac_run.specs.Run.{WaveStops, WithPlan, Writing, Writings, contents_of, outcome_of, outputs_before, shown_before, trace_of}
pub use Rattle.pac_run.specs.Run.{writing}
pub use Rattle.pac_run.specs.Start.{IsFirstBoard, IsResumable, RefusesBytes, RefusesState, has_room, is_between_frames, start_fault}
pub use Rattle.pac_run.specs.Started.{IsPrepared, IsStarted, Prepares, StartsBoard, StartsWith, refusal_told}
pub use Rattle.pac_run.specs.Texts.{image_bytes, images_text, sample_bytes, samples_in, sound_text, wave_file_text, wave_so_far}
pub use Rattle.pac_run.specs.Watched.{AllTold, HasSoundOf, IsLineUntold, SessionTells, ToldAtWave, ToldTill}
pub use Rattle.pac_run.specs.Writes.{refused_if_there, took_if_there}
pub use Rattle.pac_run.specs.declared.fault.Output.TheVariants.{Wave}
pub use Rattle.pac_run.specs.declared.fault.OutputFault.{OutputFault}
pub use Rattle.pac_run.specs.declared.fault.RunFault.{RunFault}
pub use Rattle.pac_run.specs.declared.fault.StateFault.{StateFault}
pub use Rattle.pac_run.specs.declared.fault.StateFault.TheVariants.{Limit, Midst}
pub use Rattle.pac_run.specs.declared.film.Film.{Film}
pub use Rattle.pac_run.specs.declared.inputs.RunInputs.{RunInputs}
pub use Rattle.pac_run.specs.declared.plan.Prepared.{Prepared}
pub use Rattle.pac_run.specs.declared.run.RunEnd.{RunEnd}
pub use Rattle.pac_run.specs.declared.watch.Watching.{Watching}
pub use Rattle.pac_state.proofs.Files.{text-board}
pub use Rattle.pac_state.specs.declared.fault.LoadFault.{LoadFault}
pub use Rattle.std.proofs.Common.{option_copied, ◌%◌}
pub use Rattle.std.proofs.lemmas.Bool.{le-ltb}
pub use Rattle.std.proofs.lemmas.List.Elements.{All-nil}
pub use Rattle.std.specs.Global.{Box}
pub use Rattle.std.specs.Option.{option_map_or}
pub use Rattle.std.specs.Prelude.{IfOk}
