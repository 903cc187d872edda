-- The words that proofs here, and those of crates above, import of definitions, of std and of the crates below.

pub use Rattle.pac_board_model.proofs.Common.{Account, Act, Entry, Hold, Host, Image, IsWellFormed, IsWhole, StepOn, account_by_view}
pub use Rattle.pac_board_model.proofs.Common.{after_act, after_acts, append-nil, common_steps, frame_steps, host_at, inl, inr}
pub use Rattle.pac_board_model.proofs.Common.{moment_with_inputs, next_frame, next_with_inputs, onward_if, picture_count, play_step}
pub use Rattle.pac_board_model.proofs.Common.{power_on_board_view, power_on_moment, replicate, slice_index_or, sound_count, trace}
pub use Rattle.pac_board_model.proofs.Common.{walk_at_start, walk_to, with_frame, with_step, ◌^◌, ◌⊎◌}
pub use Rattle.pac_machine.proofs.Common.{BoardStanding, BoardView, Bool, Ends, Goes, IsNextKind, IsNoted, IsTimely, Latched, List}
pub use Rattle.pac_machine.proofs.Common.{MakesBatch, Moment, Next, None, Option, Output, Parts, PassesBy, Questions, Regs, Show, Some}
pub use Rattle.pac_machine.proofs.Common.{Sound, StepProgress, View, Walk, [], ap, append_assoc, arith, at_moment, batch_at, blank_event}
pub use Rattle.pac_machine.proofs.Common.{board_after, by_view, drop, drop-append_seam, ended-stays, false, frame_ticks, get_or}
pub use Rattle.pac_machine.proofs.Common.{going-before, going-far, going-is-early, going-steps, has_ended, image_of, is_some, is_stop}
pub use Rattle.pac_machine.proofs.Common.{length, line_event, map, map-append, nat_le, nat_lt, nat_tests, not-both, noted, noted_step}
pub use Rattle.pac_machine.proofs.Common.{open-goes-on, outputs_of_step, read_of, refl, rules, sample_event, step, step-timely, stepped}
pub use Rattle.pac_machine.proofs.Common.{stretch_end, subst, suc, sym, take, take-append_seam, true, video_memory, walk, walk_after_step}
pub use Rattle.pac_machine.proofs.Common.{walk_onward, zero, ℕ, ℤ, ◌&&◌, ◌++◌, ◌+◌, ◌-◌, ◌<◌, ◌||◌, ◌∙◌, ◌∷◌, ◌≡◌, ◌≤◌}
unfoldable pub use Rattle.pac_machine.proofs.Common.{palette_of}
pub use Rattle.pac_board.specs.BoardFields.{Fields}
pub use Rattle.pac_board.specs.Boxed.{unboxed}
pub use Rattle.pac_board.specs.Calls.{board_after_run, board_after_step, course, next_from_moment, next_of, now_after, outputs_given}
pub use Rattle.pac_board.specs.Calls.{outputs_in, run_ticks, with_due}
pub use Rattle.pac_board.specs.CallsLaws.{Advances, Executes, IsAdvanced, IsOfferRefused, IsRunRefused, IsStepRefused, Offers, StepsOnce}
pub use Rattle.pac_board.specs.CallsLaws.{course_at, once_at, once_of_board}
pub use Rattle.pac_board.specs.CallsProofs.{StepsOn, stop_of_once}
pub use Rattle.pac_board.specs.Fields.{AreBoardFields, moment_of, state_of}
pub use Rattle.pac_board.specs.Hosts.{Advance, AreCalls, Call, CallsAreOfTheHistory, CountAsked, Exec, ForgetAsked, GoOn, GoTo, HostedBoard}
pub use Rattle.pac_board.specs.Hosts.{InputClear, InputSet, IsCall, ListsAreCut, Offer, PutFields, PutRoms, Reset, Restore}
pub use Rattle.pac_board.specs.Hosts.{RestoresGiveAgain, Snapshot, StepOnce, acts_of, acts_over, given_over, goes_back, history, offer_took}
pub use Rattle.pac_board.specs.Hosts.{refused_took, run_took, stays_within, step_took, steps_between, until_took, way_took}
pub use Rattle.pac_board.specs.Inputs.{mask}
pub use Rattle.pac_board.specs.InterruptMode.{InterruptMode}
pub use Rattle.pac_board.specs.Latched.{binary_digit}
pub use Rattle.pac_board.specs.Laws.{AreRefused, HasTime, IsOnTheWay, IsTakenUp, RefusalsAreTakenUp, StepsAreDoneAgain, StepsArePartsOfRuns}
pub use Rattle.pac_board.specs.Laws.{TimeCanBeCut}
pub use Rattle.pac_board.specs.MemoryFields.{view_of_fields}
pub use Rattle.pac_board.specs.MemoryView.{HoldWhatTheyCan, held_with, held_without}
pub use Rattle.pac_board.specs.PictureState.{IsPicture}
unfoldable pub use Rattle.pac_board.specs.PictureState.{black}
pub use Rattle.pac_board.specs.Roads.{GoesUntil, HasGoneUntil, IsHeld}
pub use Rattle.pac_board.specs.RoadsProofs.{BoardPasses, BoardWatched}
pub use Rattle.pac_board.specs.Sinks.{Then, TookAll}
pub use Rattle.pac_board.specs.SinksLaws.{Cut, Giving, RefusesAt, by}
pub use Rattle.pac_board.specs.State.{BoardState, BoardValue, board_after_reset, board_with_inputs, due_outputs, due_outputs_in, due_with}
pub use Rattle.pac_board.specs.State.{latest, most_asked, nothing_due, power_on_board, shows_of, sounds_of, steps_counted, time_of}
pub use Rattle.pac_board.specs.StateLaws.{restored_board}
pub use Rattle.pac_board.specs.Stretches.{HasBatch, HasStretched, IsHeardUntil, IsLastTurn, IsStretchRefused, IsStretched, IsTold, batch_of}
pub use Rattle.pac_board.specs.Stretches.{stretch_of}
pub use Rattle.pac_board.specs.Turns.{GoesTo, HasGone, IsWayRefused, board_after_walk, way, way_at}
pub use Rattle.pac_board.specs.TurnsProofs.{IsShort, IsTurn, IsTurnRefused, told_once}
pub use Rattle.pac_board.specs.Wave.{power_on_accumulators}
pub use Rattle.pac_board.specs.declared.exec.Ran.{Ran}
pub use Rattle.pac_board.specs.declared.fault.Fault.{Fault}
pub use Rattle.pac_board.specs.declared.fault.Fault.TheVariants.{Refused, TooFar}
pub use Rattle.pac_board.specs.declared.fault.Idle.{Idle}
pub use Rattle.pac_board_model.proofs.HostCarried.{hosts-agree}
pub use Rattle.pac_board_model.proofs.HostKeeps.{hosts-are-line-exact}
pub use Rattle.pac_board_model.proofs.Told.{view-tells}
pub use Rattle.pac_board_model.proofs.Walks.{ended-whole, goes-on, joined, late-has-ended, more-joined, on-the-way, stopped-has-ended}
pub use Rattle.pac_cpu.specs.declared.once.Once.{Once}
pub use Rattle.pac_cpu.specs.declared.once.Once.TheVariants.{Stepped, Stopped}
pub use Rattle.pac_cpu.specs.declared.once.StepKind.{StepKind}
pub use Rattle.pac_cpu.specs.declared.once.Stop.{Stop}
pub use Rattle.pac_machine.proofs.Noted.{noted-more, noted-sooner}
pub use Rattle.pac_machine.proofs.Passing.{passes-fewer, passes-more, passes-on}
pub use Rattle.pac_machine.proofs.Watched.{none-met, watched-first, watched-more}
pub use Rattle.pac_machine.specs.declared.due.Due.{Due}
pub use Rattle.pac_machine.specs.declared.trail.PastStep.{PastStep}
pub use Rattle.pac_machine.specs.declared.watch.Access.{Access}
pub use Rattle.std.proofs.Common.{Err, Ok, Result}
pub use Rattle.std.proofs.lemmas.List.{take_more}
pub use Rattle.std.proofs.lemmas.Result.{err_from_is_err_and}
