-- A frame's answer is the board's, and the next frame's inputs are held where it has ended.
use Rattle.std.proofs.Common.{arith}
use Rattle.pac_board_course.proofs.Framed.{next_mask, told-answered}
use Rattle.pac_board_course.proofs.course.Course.play_frame.Goals as goal

pub returns-then-time-frame : goal.returns-then-time-frame
returns-then-time-frame g c = grind (arith, next_mask, told-answered)

pub returns-else-time-frame : goal.returns-else-time-frame
returns-else-time-frame g c = grind (arith, told-answered)
