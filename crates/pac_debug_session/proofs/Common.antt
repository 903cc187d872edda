-- The words that proofs here, and those of crates above, import of definitions, of std and of the crates below.

pub use Rattle.pac_board_course.proofs.Common.{BoardState, BoardValue, BoardView, Bool, CourseValue, Ends, Err, Giving, Goes, GoesTold}
pub use Rattle.pac_board_course.proofs.Common.{HasEndedBy, IsCourseHeldUp, IsNoted, IsOver, IsTimely, List, Moment, Next, None, Ok, Option}
pub use Rattle.pac_board_course.proofs.Common.{Output, Parts, PastStep, Result, Some, StepKind, Stop, Stretch, TookAll, Walk, ap, arith}
pub use Rattle.pac_board_course.proofs.Common.{board_at, board_with_inputs, by, by_view, cut-after, cut-along, cut-something, due_outputs}
pub use Rattle.pac_board_course.proofs.Common.{end_of, err_from_is_err_and, false, frame_end, frame_steps, frame_ticks, goes-on}
pub use Rattle.pac_board_course.proofs.Common.{going-before, going-steps, has_ended, held, if◌then◌else◌, inl, inr, is_some, joined}
pub use Rattle.pac_board_course.proofs.Common.{late-has-ended, min, more-joined, most_frames, most_ticks, nat_le, nat_tests, next_in, noted}
pub use Rattle.pac_board_course.proofs.Common.{noted_step, nothing_due, onward_if, outcome_at, play-timely, power_on_board_view}
pub use Rattle.pac_board_course.proofs.Common.{prefix-after, refl, restored_board, rules, runs-end, stepped, stopped-has-ended, subst, suc}
pub use Rattle.pac_board_course.proofs.Common.{sym, told_of, took-both, total_frames, trail_over, true, walk, walk-near, walk-to-ends}
pub use Rattle.pac_board_course.proofs.Common.{walk_after_step, way_on, way_walked, zero, ℕ, ◌*◌, ◌++◌, ◌+◌, ◌-◌, ◌/◌, ◌<◌, ◌∙◌, ◌≡◌, ◌≤◌}
pub use Rattle.arrayvec.proofs.ArrayVecLemmas.{filter-from_retain}
pub use Rattle.circular_buffer.specs.Buffer.{Buffer, keep_last}
pub use Rattle.pac_board_course.proofs.Begun.{walk-same}
pub use Rattle.pac_board_course.proofs.Counted.{going-if-counted}
pub use Rattle.pac_board_course.proofs.Noted.{noted-at}
pub use Rattle.pac_board_course.proofs.Runs.{runs-are-joined}
pub use Rattle.pac_board_course.proofs.Trails.{kept-joined}
pub use Rattle.pac_board_course.proofs.Walks.{ended-for-good, going-far, not-both}
pub use Rattle.pac_board_course.specs.declared.outcome.Outcome.{Outcome}
pub use Rattle.pac_debug_session.specs.Breakpoints.{AreStops, heeded_if}
pub use Rattle.pac_debug_session.specs.Inside.{AreSlotsRight, IsInsideRight, IsStanding, session_setting, session_view}
pub use Rattle.pac_debug_session.specs.Keeping.{AreCheckpoints, AreEmpty, AreSlots, IsKeptAt, IsSlot, Ring, kept_of, mark_of}
pub use Rattle.pac_debug_session.specs.Keeping.{ring_after_index, ring_with_checkpoint}
pub use Rattle.pac_debug_session.specs.Motions.{HasTravelled, IsBack, IsDone, IsTooOld, RestsBy, back_to, checkpoint_count}
pub use Rattle.pac_debug_session.specs.Motions.{checkpoint_steps, has_met, is_done, motion_ending, moved_to, oldest_index, rests}
pub use Rattle.pac_debug_session.specs.Motions.{session_with_slot}
pub use Rattle.pac_debug_session.specs.MotionsLaws.{IsFinishRefused, IsOutcome, IsTravelRefused}
pub use Rattle.pac_debug_session.specs.MotionsProofs.{IsFinished, replayed_to, stop_of}
pub use Rattle.pac_debug_session.specs.Past.{past_steps, told_at}
pub use Rattle.pac_debug_session.specs.Playing.{course_of}
pub use Rattle.pac_debug_session.specs.Running.{IsLeast, Setting, blanks_at, goes_at, is_late, limit, next_at, next_from, now_at}
pub use Rattle.pac_debug_session.specs.Running.{outputs_between, play_of, run, stop_at, stop_in}
pub use Rattle.pac_debug_session.specs.RunningLaws.{outputs_from, whole_run}
pub use Rattle.pac_debug_session.specs.Session.{SessionValue, breaks_at, has_breakpoint, most_breakpoints, session_at_start}
pub use Rattle.pac_debug_session.specs.Session.{without_breakpoint}
pub use Rattle.pac_debug_session.specs.SessionLaws.{AreSeen, IsSeen, IsSession, IsSessionOfferRefused, session_at_command}
pub use Rattle.pac_debug_session.specs.SessionLaws.{session_due_outputs, slot_count}
pub use Rattle.pac_debug_session.specs.SessionProofs.{IsNew}
pub use Rattle.pac_debug_session.specs.Silent.{Swallows}
pub use Rattle.pac_debug_session.specs.Strides.{HasLeapt, HasStrode, IsLeap, IsLeapRefused, IsLeapt, IsStrideRefused, LeapEnds, Leaps}
pub use Rattle.pac_debug_session.specs.Strides.{IsLeapLimit, MeetNothing, heeded_by, heeds, leap_most, longest_stride, steps_left}
pub use Rattle.pac_debug_session.specs.Strides.{stop_unless}
pub use Rattle.pac_debug_session.specs.declared.kept.SessionSnapshot.{SessionSnapshot}
pub use Rattle.pac_debug_session.specs.declared.kept.SlotContents.{SlotContents}
pub use Rattle.pac_debug_session.specs.declared.motion.Motion.{Motion}
pub use Rattle.pac_debug_session.specs.declared.motion.Motion.TheVariants.{Continue, Frames, Steps, ToEnd}
pub use Rattle.pac_debug_session.specs.declared.motion.MotionEnd.{MotionEnd}
pub use Rattle.pac_debug_session.specs.declared.motion.MotionEnd.TheVariants.{AtStop}
pub use Rattle.pac_debug_session.specs.declared.session.Session.TheInside.{Inside}
pub use Rattle.std.proofs.Common.{[], append_assoc, drop, filter, get_or, is_none, length, map, max, nat_lt, not, replicate, set, slice_get}
pub use Rattle.std.proofs.Common.{slice_index, slice_set, ◌%◌, ◌==◌, ◌^◌, ◌||◌, ◌∷◌}
pub use Rattle.std.proofs.Math.Seq.{drop-append_seam, drop-length}
pub use Rattle.std.proofs.lemmas.Bool.{and_parts, and_right, cases_lt, cases_order, not-false, not-true, not_from_true, or_from, or_parts}
pub use Rattle.std.proofs.lemmas.Bool.{or_right}
pub use Rattle.std.proofs.lemmas.Grind.{common_steps}
pub use Rattle.std.proofs.lemmas.List.{append-nil, get_or-map, get_or-set_other, get_or-set_same, length-append, length-drop, length-set}
pub use Rattle.std.proofs.lemmas.List.{map-set}
pub use Rattle.std.proofs.lemmas.List.Filters.{length-filter_both}
pub use Rattle.std.proofs.lemmas.Map.Views.{any-filter_same}
pub use Rattle.std.specs.List.{list_any}
