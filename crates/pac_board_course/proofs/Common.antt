-- The words that proofs here, and those of crates above, import of definitions, of std and of the crates below.

pub use Rattle.pac_board.proofs.Common.{BoardState, BoardValue, BoardView, Bool, Cut, Ends, Entry, Err, Giving, Goes, GoesTo, GoesUntil}
pub use Rattle.pac_board.proofs.Common.{HasGone, Image, IsNoted, IsTimely, IsWayRefused, IsWhole, List, Moment, Next, None, Ok, Option}
pub use Rattle.pac_board.proofs.Common.{Output, Parts, PassesBy, Questions, Result, Show, Some, Sound, TookAll, Walk, ap, arith}
pub use Rattle.pac_board.proofs.Common.{board_after_walk, board_with_inputs, by, by_view, due_outputs, ended-whole, err_from_is_err_and}
pub use Rattle.pac_board.proofs.Common.{false, frame_steps, frame_ticks, goes-on, going-before, going-steps, has_ended, inl, inr, is_some}
pub use Rattle.pac_board.proofs.Common.{joined, late-has-ended, latest, moment_with_inputs, more-joined, most_asked, nat_le, nat_tests}
pub use Rattle.pac_board.proofs.Common.{next_with_inputs, noted, noted_step, nothing_due, now_after, on-the-way, onward_if, open-goes-on}
pub use Rattle.pac_board.proofs.Common.{picture_count, play_step, power_on_board, power_on_board_view, refl, restored_board, rules}
pub use Rattle.pac_board.proofs.Common.{sound_count, step, step-timely, stepped, steps_counted, stopped-has-ended, subst, suc, sym, trace}
pub use Rattle.pac_board.proofs.Common.{true, walk, walk_after_step, walk_onward, walk_to, with_due, zero, ℕ, ◌++◌, ◌+◌, ◌-◌, ◌<◌, ◌∙◌, ◌≡◌}
pub use Rattle.pac_board.proofs.Common.{◌≤◌, ◌⊎◌}
pub use Rattle.pac_inputs.proofs.Common.{held, held_after, script_of, total_frames}
pub use Rattle.pac_board.proofs.Noted.{walk-stepped}
pub use Rattle.pac_board.proofs.Runs.{runs-end, walk-near}
pub use Rattle.pac_board.proofs.Sinks.{cut-after, cut-along, cut-something, prefix-after, took-both}
pub use Rattle.pac_board.proofs.Walks.{going-counted, open-is-late, play-timely, walk-to-ends}
pub use Rattle.pac_board.specs.Due.{Due}
pub use Rattle.pac_board.specs.PastStep.{PastStep}
pub use Rattle.pac_board.specs.Stop.{Stop}
pub use Rattle.pac_board_course.specs.BoardView.{IsBoard}
pub use Rattle.pac_board_course.specs.Carried.{walk_view}
pub use Rattle.pac_board_course.specs.Course.{CourseValue, begun, course_after, end_of, frame_microseconds, held_in, next_in, outcome_at}
pub use Rattle.pac_board_course.specs.Course.{way_on, way_walked}
pub use Rattle.pac_board_course.specs.CourseProofs.{board_asked, course_with_due}
pub use Rattle.pac_board_course.specs.Frames.{GoesTold, HasEndedBy, HasPlayedInFrame, IsUnderway, PlaysInFrame, frame_end}
pub use Rattle.pac_board_course.specs.History.{board_after_entries}
pub use Rattle.pac_board_course.specs.Instructions.{most_ticks}
pub use Rattle.pac_board_course.specs.Laws.{CoursesBegin, CoursesGoOn}
pub use Rattle.pac_board_course.specs.Plays.{IsCourseHeldUp, IsOver}
pub use Rattle.pac_board_course.specs.Resumed.{HasItsFrames, JoinsPlays}
pub use Rattle.pac_board_course.specs.ScriptFault.{ScriptFault}
pub use Rattle.pac_board_course.specs.Shown.{blank_count}
pub use Rattle.pac_board_course.specs.Step.{frame_samples, sample_ticks}
pub use Rattle.pac_board_course.specs.StepKind.{StepKind}
pub use Rattle.pac_board_course.specs.Stretch.{Stretch}
pub use Rattle.pac_board_course.specs.Stretches.{most_frames}
pub use Rattle.pac_board_course.specs.Trace.{Play, by_history, frames_gone, resumed, resumed_end, resumed_start, resumed_step, run_at}
pub use Rattle.pac_board_course.specs.TraceLaws.{plays_joined}
pub use Rattle.pac_board_course.specs.Trails.{told_of, trail_over}
pub use Rattle.pac_board_course.specs.TurnsProofs.{board_at}
pub use Rattle.std.proofs.Common.{if◌then◌else◌, min, ◌*◌, ◌/◌}
