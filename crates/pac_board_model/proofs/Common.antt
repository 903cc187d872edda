-- The words that proofs here, and those of crates above, import of definitions, of std and of the crates below.

pub use Rattle.pac_cpu.proofs.Common.{Action, AllLie, Code, Content, CpuStep, Data, DecodesPrefix, Instruction, IsCpuStepInTime}
pub use Rattle.pac_cpu.proofs.Common.{IsInstruction, IsValid, Item, Lies, None, Option, Some, Steps, Stops, [], bytes_in, code}
pub use Rattle.pac_cpu.proofs.Common.{decoded_instruction, four_from, if◌then◌else◌, instruction_at, instruction_in, least_ticks, map}
pub use Rattle.pac_cpu.proofs.Common.{most_ticks, ◌*◌, ◌∷◌}
unfoldable pub use Rattle.pac_cpu.proofs.Common.{cpu_step, tabulate}
pub use Rattle.pac_map.proofs.Common.{Accept, Blank, Bool, Entry, Hold, IsPlaceInRange, IsWellFormed, IsWhole, Line, List, Parts, Reset}
pub use Rattle.pac_map.proofs.Common.{Sample, Vector, View, Write, answer, ap, arith, attributes_size, cond, coordinates_size, drop}
pub use Rattle.pac_map.proofs.Common.{entries_of, false, interrupt_request, is_latch_bit_set, kept_nibble, latch_place, latched_after_bit}
pub use Rattle.pac_map.proofs.Common.{length, length-drop, lookups_of, nat_tests, program_size, ram_size, read_of, read_place, refl}
pub use Rattle.pac_map.proofs.Common.{registers_size, rules, slice_index, slice_set, subst, suc, sym, take, true, view_after}
pub use Rattle.pac_map.proofs.Common.{view_after_write, watchdog_limit, write_place, zero, ℕ, ◌%◌, ◌+◌, ◌-◌, ◌<◌, ◌==◌, ◌∙◌, ◌≡◌, ◌≢◌, ◌≤◌}
pub use Rattle.pac_picture.proofs.Common.{common_steps, get_or-drop, get_or-tabulate, get_or-take, height, length-set, length-tabulate}
pub use Rattle.pac_picture.proofs.Common.{nat_le, replicate, same_number_lists, ℤ, ◌&&◌, ◌++◌, ◌/◌, ◌^◌, ◌||◌}
unfoldable pub use Rattle.pac_picture.proofs.Common.{picture_line}
pub use Rattle.pac_board_model.specs.BoardView.{BoardView, IsBoard, board_after, power_on_board_view, video_memory, video_roms}
pub use Rattle.pac_board_model.specs.Carried.{moment_view, next_view, walk_view}
pub use Rattle.pac_board_model.specs.CarriedProofs.{Carries}
pub use Rattle.pac_board_model.specs.History.{board_after_entries, colour_at, coordinate_at, history_lookups, history_registers}
pub use Rattle.pac_board_model.specs.History.{is_same_place, last_held, read, register_at, tile_at, work_at}
pub use Rattle.pac_board_model.specs.HistoryProofs.{view_after_entries}
pub use Rattle.pac_board_model.specs.Host.{Account, Act, Host, StepOn, account_by_history, account_by_view, after_act, after_acts, host_at}
pub use Rattle.pac_board_model.specs.Host.{host_view, put_now, with_step}
pub use Rattle.pac_board_model.specs.Laws.{FramesHaveTheirSamples, HostsAgree, HostsAreLineExact, IsComposed, IsLineInTime, IsTimely}
pub use Rattle.pac_board_model.specs.Laws.{IsWalkTimed, LinesHaveNoOtherMoments, LinesHaveTheirMoments, OutputsAreOfTheHistory}
pub use Rattle.pac_board_model.specs.Laws.{OutputsAreTimed, PicturesAreLineExact, RunsAgree, RunsAreJoined, RunsEnd, RunsGoByFrames}
pub use Rattle.pac_board_model.specs.Laws.{StepsAgree, StepsAreTimely, TellsHistory, ViewAnswers, ViewTells, WalksAreTimed, WalksEnd}
pub use Rattle.pac_board_model.specs.Laws.{WalksGoOn, WalksJoin, line_moment, next_frame, with_frame}
pub use Rattle.pac_board_model.specs.MemoryLaws.{HistoryIsOfMemory, MemoryDecides, MemoryWalksAlone, by_memory}
pub use Rattle.pac_board_model.specs.Output.{Image, Output, Show, Sound, image_of, picture_count, sound_count}
pub use Rattle.pac_board_model.specs.Queries.{bit_at, blanks_since, history_request, is_latch, is_requested, is_reset_due, last_bit}
pub use Rattle.pac_board_model.specs.Queries.{last_vector, lowest}
pub use Rattle.pac_board_model.specs.Resumed.{JoinsPlays, LastIsHeld, PlaysJoin, ResumedOutputsAreOfTheHistory, ResumedRunsAgree}
pub use Rattle.pac_board_model.specs.Resumed.{ResumedRunsAreTimed, ResumedRunsEnd, ResumedRunsHaveTheirFrames, RunsAreContinued, RunsBegin}
pub use Rattle.pac_board_model.specs.Resumed.{StoppedRunsStay}
pub use Rattle.pac_board_model.specs.Shown.{accumulator_at, blank_count, flip, line_at, memory_at, sample_at, sound_enable}
pub use Rattle.pac_board_model.specs.ShownLaws.{history_outputs, sample_count}
pub use Rattle.pac_board_model.specs.Step.{Ends, Goes, Moment, Next, Questions, StepProgress, after_cpu_step, at_moment, blank_event}
pub use Rattle.pac_board_model.specs.Step.{frame_samples, frame_ticks, give, hidden_lines, line_event, line_ticks, next_after_events, note}
pub use Rattle.pac_board_model.specs.Step.{progress_after_cpu, put_actions, put_kind, reset_event, sample_event, sample_ticks, scan_frame}
pub use Rattle.pac_board_model.specs.Step.{scan_line, step, surroundings, through, watchdog_event}
pub use Rattle.pac_board_model.specs.Trace.{Play, by_history, by_view, frame_steps, frames_gone, item_in, moment_with_inputs}
pub use Rattle.pac_board_model.specs.Trace.{next_with_inputs, play_step, power_on_moment, resumed, resumed_end, resumed_start, resumed_step}
pub use Rattle.pac_board_model.specs.Trace.{run_at, trace}
pub use Rattle.pac_board_model.specs.TraceLaws.{plays_joined, resumed_at}
pub use Rattle.pac_board_model.specs.Walk.{Walk, onward_if, walk, walk_after_step, walk_at_start, walk_onward, walk_to}
pub use Rattle.pac_board_model.specs.WalkLaws.{has_ended}
pub use Rattle.pac_cpu.proofs.CodeLengths.{length-code}
pub use Rattle.pac_cpu.proofs.CpuSteps.{cpu-step-in-time}
pub use Rattle.pac_cpu.proofs.RoundTrip.{decodes-prefix}
pub use Rattle.pac_cpu.specs.Regs.{Regs}
pub use Rattle.pac_cpu.specs.declared.once.StepKind.{StepKind}
pub use Rattle.pac_cpu.specs.declared.once.Stop.{Stop}
pub use Rattle.pac_map.proofs.LatchBits.{is_set-others, is_set-written}
pub use Rattle.pac_map.proofs.WellFormed.{power-on-well-formed, view-after-well-formed}
pub use Rattle.pac_map.specs.declared.bus_table.BusPlace.{BusPlace}
pub use Rattle.pac_map.specs.declared.bus_table.BusPlace.TheVariants.{Colour, Coordinate, Kick, Latch, Tile, Wave, Work}
pub use Rattle.pac_picture.proofs.Composed.{black-picture}
pub use Rattle.pac_wave.specs.Wave.{Accumulators, Fit20Bits, accumulator, accumulators_after, frequency}
pub use Rattle.pac_wave.specs.declared.Voice.{Voice}
pub use Rattle.std.proofs.Common.{append_assoc, fold, inl, inr, is_some, min, slice_index_or, unwrap_or, ◌⊎◌}
pub use Rattle.std.proofs.lemmas.List.{append-nil, ext_get_or, length-take}
pub use Rattle.std.proofs.lemmas.List.Elements.{recursion_from_All}
pub use Rattle.std.specs.List.{AllByRecursion}
pub use Rattle.std.specs.Option.{option_or}
