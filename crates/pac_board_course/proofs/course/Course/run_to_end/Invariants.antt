-- So far has the run been played.
use Rattle.pac_board_course.proofs.Common.{IsUnderway, end_of, ◌-◌}
use Rattle.pac_board_course.proofs.course.Course.run_to_end.Given as goal

abbrev pub invariant-frames : goal.invariant-frames
invariant-frames g l = IsUnderway g.S.Sink.took l.fn.self l.fn.sink l.self l.sink

abbrev pub decreases-frames : goal.decreases-frames
decreases-frames g l = end_of l.fn.self - l.self.board.state.now.time
