-- The words that proofs here, and those of crates above, import of definitions, of std and of the crates below.

pub use Rattle.pac_board.proofs.Common.{Cut, due_outputs_in, moment_of, read_of, take, take_more, ◌⊎◌}
pub use Rattle.pac_debug_session.proofs.Common.{AreSeen, BoardState, BoardView, Bool, Err, Giving, HasTravelled, IsBack, IsDone}
pub use Rattle.pac_debug_session.proofs.Common.{IsFinishRefused, IsFinished, IsLeast, IsOutcome, IsSeen, IsSession, IsSessionOfferRefused}
pub use Rattle.pac_debug_session.proofs.Common.{IsTooOld, IsTravelRefused, List, Moment, None, Ok, Option, Output, RestsBy, Result}
pub use Rattle.pac_debug_session.proofs.Common.{SessionValue, Setting, Some, Stop, TookAll, [], ap, append_assoc, arith, back_to, breaks_at}
pub use Rattle.pac_debug_session.proofs.Common.{by, cases_lt, cases_order, common_steps, cut-after, cut-along, drop, err_from_is_err_and}
pub use Rattle.pac_debug_session.proofs.Common.{false, filter, get_or, goes_at, has_breakpoint, has_met, is_late, length, length-drop}
pub use Rattle.pac_debug_session.proofs.Common.{length-filter_both, length-set, max, most_breakpoints, motion_ending, moved_to, nat_le}
pub use Rattle.pac_debug_session.proofs.Common.{nat_lt, nat_tests, not, not-both, not-false, nothing_due, now_at, oldest_index, or_parts}
pub use Rattle.pac_debug_session.proofs.Common.{or_right, outputs_between, outputs_from, past_steps, play_of, refl, rests, rules, run}
pub use Rattle.pac_debug_session.proofs.Common.{session_at_command, session_at_start, session_due_outputs, session_with_slot, set, stop_at}
pub use Rattle.pac_debug_session.proofs.Common.{subst, suc, sym, told_at, took-both, true, whole_run, zero, ℕ, ◌++◌, ◌+◌, ◌-◌, ◌<◌, ◌==◌}
pub use Rattle.pac_debug_session.proofs.Common.{◌∙◌, ◌∷◌, ◌≡◌, ◌≤◌}
pub use Rattle.pac_debug_text.proofs.Common.{slot_index, wrapped_address}
unfoldable pub use Rattle.pac_debug_text.proofs.Common.{bytes_from, command_of}
pub use Rattle.pac_out.proofs.Common.{Refuses, Takes, append-nil, length-append}
pub use Rattle.pac_board.proofs.LatchBytes.{byte_of-bits_of}
pub use Rattle.pac_board.specs.Due.{Due}
pub use Rattle.pac_debug.specs.Answers.{answer_text, ending_of, session_byte_at, session_moment, told_lines}
pub use Rattle.pac_debug.specs.GoingOn.{AnswersEach, AreDoneInTurn, AreInOrder, ComesTo, GoesIntoFile, IsHeldUpAfter, IsHeldUpAt}
pub use Rattle.pac_debug.specs.GoingOn.{LeavesEach, LeavesLine, LineAnswer, NoneIsTold, Offered, TextsAreLines, WasOffered, WasRefused}
pub use Rattle.pac_debug.specs.GoingOn.{WasTaken}
pub use Rattle.pac_debug.specs.Laws.{AllLinesTell, TellsOneThing}
pub use Rattle.pac_debug.specs.Obeying.{AnswersBack, AnswersReturn, HasMoved, IsCommandObeyed, IsCommandPerformed, SetsBreakpoint, Stays}
pub use Rattle.pac_debug.specs.Obeying.{kept_at, motion_of, session_without_due}
pub use Rattle.pac_debug.specs.ObeyingLaws.{Asks, Commands, IsCommandDone, IsCommandRefused, IsHeldUp, IsLineAnswered, ObeysLines, Scene}
pub use Rattle.pac_debug.specs.StepsMade.{LinesMakeNoMore, MakesNoMore, SessionsMakeNoMore, all_steps_again, steps_again}
pub use Rattle.pac_debug.specs.Watched.{FirstGivesMore, TellsAll, TellsOfCommand, ToldUpTo, WordsTell, given_by, takes_all}
pub use Rattle.pac_debug.specs.WatchedLaws.{GaveAll, GaveSome, IsFurther, IsSessionWatched, IsWatchRefused, IsWatchUntold, RefusedAt}
pub use Rattle.pac_debug.specs.WatchedLaws.{RefusedOf, TookTold, WatchesSession, outputs_to_give, outputs_until}
pub use Rattle.pac_debug.specs.WatchedProofs.{LinesGive}
pub use Rattle.pac_debug.specs.declared.answer.Answer.{Answer}
pub use Rattle.pac_debug.specs.declared.line.CommandFault.{CommandFault}
pub use Rattle.pac_debug_session.proofs.Ends.{most, over-later, run-ends, search-up, whole-at-end}
pub use Rattle.pac_debug_session.proofs.Forwards.{between-joined, between-self, joined-to-end}
pub use Rattle.pac_debug_session.proofs.Indices.{open-up-to}
pub use Rattle.pac_debug_session.proofs.Slots.{seen-set}
pub use Rattle.pac_debug_session.proofs.Steppings.{all-seen-later}
pub use Rattle.pac_debug_session.proofs.Travelled.{met-by}
pub use Rattle.pac_debug_session.specs.Outcome.{Outcome}
pub use Rattle.pac_debug_session.specs.declared.motion.Motion.{Motion}
pub use Rattle.pac_debug_session.specs.declared.motion.MotionEnd.{MotionEnd}
pub use Rattle.pac_debug_session.specs.declared.motion.MotionEnd.TheVariants.{AtBreakpoint, AtEnd, AtFrame, AtStep, AtStop}
pub use Rattle.pac_debug_text.specs.declared.command.Command.{Command}
pub use Rattle.pac_debug_text.specs.declared.command.NoCommand.{NoCommand}
pub use Rattle.pac_out.proofs.Files.{takes-joined}
pub use Rattle.pac_out.specs.declared.WriteFault.{WriteFault}
pub use Rattle.pac_out.specs.declared.counted.Counted.{Counted}
pub use Rattle.std.proofs.lemmas.List.{append_cancel_left, get_or-drop, take_more_set}
pub use Rattle.std.proofs.lemmas.List.Elements.{All-cons}
pub use Rattle.std.proofs.lemmas.Option.{get_or_from_slice_get, slice_get_within}
pub use Rattle.std.specs.Prelude.{slice_get}
pub use Rattle.std.specs.Str.Lines.{lines}
