-- For proofs: what proofs say of the definitions of Course.antt.
use Rattle.pac_board_course.specs.Course.{CourseValue, next_in}
use Rattle.pac_board.specs.Step.{Next, frame_ticks}
use Rattle.pac_board.specs.BoardView.{BoardView}
use Rattle.pac_board.specs.Due.{Due}
use Rattle.pac_board.specs.Calls.{with_due}
use Rattle.pac_board.specs.State.{BoardValue, latest, frame_microseconds, most_asked}
use Rattle.std.specs.Prelude.{List, ◌≤◌, ◌+◌, ◌*◌, ◌/◌, ℕ, min, ◌-◌}
use Rattle.pac_inputs.specs.declared.line.Stretch.{Stretch}
use Rattle.pac_inputs.specs.Stretches.{total_frames}
use Rattle.pac_board.specs.StateLaws.{with_more_asked}

abbrev pub next_on : CourseValue → Next BoardView
next_on course = next_in course course.board.state.now

abbrev pub course_with_due : CourseValue → Due → CourseValue
course_with_due course due = record { board = with_due course.board due; script = course.script; gone = course.gone }

-- the run ends while the board still makes steps
abbrev pub FitsTime : BoardValue → List Stretch → Type 0
FitsTime board script = frame_ticks * (board.state.now.time / frame_ticks + total_frames script) ≤ latest

-- so many frames can be asked of the board
abbrev pub FitsAsked : BoardValue → List Stretch → Type 0
FitsAsked board script = board.state.asked + frame_microseconds * total_frames script ≤ most_asked

-- the frames of the script that have begun, the one under way too
abbrev pub frames_begun : CourseValue → ℕ
frames_begun course = min (total_frames course.script) (course.board.state.now.time / frame_ticks + 1 - course.gone)

-- the board of a course, of which each frame that has begun was asked
abbrev pub board_asked : CourseValue → BoardValue
board_asked course = with_more_asked course.board (frame_microseconds * frames_begun course)
