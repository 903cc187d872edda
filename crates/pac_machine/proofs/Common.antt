-- The words that proofs here, and those of crates above, import of definitions, of std and of the crates below.

pub use Rattle.pac_board_model.proofs.Common.{Accept, Accumulators, Action, Blank, BoardView, Bool, CpuStep, Ends, Goes, Instruction}
pub use Rattle.pac_board_model.proofs.Common.{IsCpuStepInTime, IsTimely, Line, List, Moment, Next, None, Option, Output, Parts, Questions}
pub use Rattle.pac_board_model.proofs.Common.{Regs, Reset, Sample, Show, Some, Sound, StepProgress, Steps, Stops, Vector, View, Walk, []}
pub use Rattle.pac_board_model.proofs.Common.{accumulator, accumulators_after, after_cpu_step, ap, append_assoc, arith, at_moment}
pub use Rattle.pac_board_model.proofs.Common.{blank_event, board_after, by_view, cond, cpu-step-in-time, decoded_instruction, drop}
pub use Rattle.pac_board_model.proofs.Common.{entries_of, false, fold, four_from, frame_ticks, give, has_ended, hidden_lines, image_of}
pub use Rattle.pac_board_model.proofs.Common.{interrupt_request, is_some, least_ticks, length, length-drop, length-tabulate, length-take}
pub use Rattle.pac_board_model.proofs.Common.{line_event, line_ticks, map, min, most_ticks, nat_le, nat_tests, next_after_events, note}
pub use Rattle.pac_board_model.proofs.Common.{progress_after_cpu, put_actions, put_kind, read_of, refl, reset_event, rules, sample_event}
pub use Rattle.pac_board_model.proofs.Common.{sample_ticks, scan_frame, scan_line, step, subst, suc, surroundings, sym, take, through, true}
pub use Rattle.pac_board_model.proofs.Common.{video_memory, video_roms, view_after, view_after_write, walk, walk_after_step, walk_onward}
pub use Rattle.pac_board_model.proofs.Common.{watchdog_event, watchdog_limit, write_place, zero, ℕ, ℤ, ◌%◌, ◌&&◌, ◌*◌, ◌++◌, ◌+◌, ◌-◌, ◌/◌}
pub use Rattle.pac_board_model.proofs.Common.{◌<◌, ◌==◌, ◌||◌, ◌∙◌, ◌∷◌, ◌≡◌, ◌≤◌}
unfoldable pub use Rattle.pac_board_model.proofs.Common.{cpu_step, picture_line, tabulate}
pub use Rattle.pac_cpu.proofs.Common.{DoesCpuStep, IfStepped, Surroundings, Write, acceptance, accepts, actions_of, bus_after_actions}
pub use Rattle.pac_cpu.proofs.Common.{execution, execution_at_pc, halted_step, once_of_step, reads_in, regs_after_fetches, reset_regs}
pub use Rattle.pac_cpu.proofs.Common.{surroundings_of, takes_vector, uninterrupted_step}
pub use Rattle.pac_map.proofs.Common.{Latched, SoundSettings, is_of_sound, is_watchdog_due, latched_after_blank, latched_after_reset}
pub use Rattle.pac_map.proofs.Common.{map_after_action, map_byte_at, map_input_at, nat_lt, port_byte, sound_settings, touches_sound}
unfoldable pub use Rattle.pac_map.proofs.Common.{zero_parts}
pub use Rattle.pac_picture.proofs.Common.{PictureState, get_or, length-map, lines_composed, not, places, set, set-get_or}
unfoldable pub use Rattle.pac_picture.proofs.Common.{palette_of, zero_roms}
pub use Rattle.circular_buffer.specs.Buffer.{keep_last}
pub use Rattle.pac_board_model.proofs.Walks.{ended-stays, goes-further, going-before, going-far, going-is-early, going-steps, not-both}
pub use Rattle.pac_board_model.proofs.Walks.{open-goes-on, step-timely}
pub use Rattle.pac_cpu.specs.declared.once.Once.{Once}
pub use Rattle.pac_cpu.specs.declared.once.Once.TheVariants.{Stepped, Stopped}
pub use Rattle.pac_cpu.specs.declared.once.StepKind.{StepKind}
pub use Rattle.pac_cpu.specs.declared.once.StepKind.TheVariants.{Accepted, Halted, Ran}
pub use Rattle.pac_cpu.specs.declared.once.Stop.{Stop}
pub use Rattle.pac_machine.specs.Bursts.{next_sample, stretch_end}
pub use Rattle.pac_machine.specs.BurstsProofs.{BurstsQuietly, IsNextKind, MakesBatch, MeetsAfter, batch_at, burst_at, eventless_after}
pub use Rattle.pac_machine.specs.BurstsProofs.{eventless_step, halted_before, is_accepting, is_waiting, kind_found, next_blank, next_line}
pub use Rattle.pac_machine.specs.BurstsProofs.{outputs_of_step, sound_of, standing_composed, standing_sounded, standing_waited}
pub use Rattle.pac_machine.specs.Events.{Acts, Brings, after_kind, after_once, after_part, part_of, progress_at_start, standing_after_entry}
pub use Rattle.pac_machine.specs.Events.{standing_after_events}
pub use Rattle.pac_machine.specs.Standing.{due_outputs_in, latest, latest_end, next_from_moment, nothing_due, passed_lines, recomposed_view}
pub use Rattle.pac_machine.specs.StandingProofs.{BoardStanding, now_after}
pub use Rattle.pac_machine.specs.Stops.{is_stop}
pub use Rattle.pac_machine.specs.StopsProofs.{PassesBy}
pub use Rattle.pac_machine.specs.Trails.{IsKnownKind, IsNoted, IsTakenBack, IsToldNext, halted_note, halted_noted, kind_noted, noted_each}
pub use Rattle.pac_machine.specs.Trails.{kind_run, noted, noted_line, noted_step, notes_of, place_after, ring_length, step_noted, stepped}
pub use Rattle.pac_machine.specs.Trails.{steps_noted, told_in, told_of, trail_length, turned}
pub use Rattle.pac_machine.specs.Watches.{IsWatched, first_of, first_read, first_write, watched_at, watched_in, watches_writes}
pub use Rattle.pac_machine.specs.WatchesProofs.{watched_after_action, watched_byte_at, watched_input_at}
pub use Rattle.pac_machine.specs.declared.due.Due.{Due}
pub use Rattle.pac_machine.specs.declared.note.Note.{Note}
pub use Rattle.pac_machine.specs.declared.trail.PastStep.{PastStep}
pub use Rattle.pac_machine.specs.declared.watch.Access.{Access}
pub use Rattle.pac_machine.specs.declared.watch.WatchedBus.{WatchedBus}
pub use Rattle.pac_map.specs.declared.board_bus.Map.{Map}
pub use Rattle.pac_map.specs.declared.bus_table.BusPlace.{BusPlace}
pub use Rattle.pac_map.specs.declared.bus_table.BusPlace.TheVariants.{Colour, Coordinate, Kick, Latch, Tile, Wave, Work}
pub use Rattle.pac_wave.proofs.Batch.{counted}
pub use Rattle.pac_wave.specs.Batch.{accumulators_after_many, sound_samples}
pub use Rattle.pac_wave.specs.Settings.{SoundSource}
pub use Rattle.pac_wave.specs.Wave.{sound_sample}
pub use Rattle.std.proofs.Common.{append-nil, is_none, slice_get}
pub use Rattle.std.proofs.Math.Seq.{drop-append_seam, take-append_seam}
pub use Rattle.std.proofs.lemmas.Bool.{or_parts}
pub use Rattle.std.proofs.lemmas.Int.{to_z-of_z}
pub use Rattle.std.proofs.lemmas.List.{drop-append-le, drop-drop, drop-map, drop-set, drop-set-add, drop-set-lt, drop_all, length-append}
pub use Rattle.std.proofs.lemmas.List.{map-append, set-append_right, set_split, take_at, take_more_set}
pub use Rattle.std.proofs.lemmas.Option.{slice_get-map}
pub use Rattle.std.specs.Option.{option_map}
pub use Rattle.std.specs.Prelude.{slice_set}
