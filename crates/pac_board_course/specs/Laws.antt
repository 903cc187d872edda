-- Law: laws of courses, each proved on a public function of the crate.
use Rattle.std.specs.Prelude.{◌≡◌, ℕ, ◌++◌, List}
use Rattle.pac_board.specs.BoardView.{power_on_board_view}
use Rattle.pac_board.specs.RomParts.{Parts}
use Rattle.pac_board.specs.State.{BoardValue, power_on_board}
use Rattle.pac_board.specs.Trace.{by_view, resumed, trace}
use Rattle.pac_inputs.specs.Stretches.{total_frames, held}
use Rattle.pac_inputs.specs.declared.line.Stretch.{Stretch}
use Rattle.pac_board_course.specs.Course.{CourseValue, begun, way_on, way_walked, course_after}

-- A course goes on as it would have: what was given out up to a step, and what is left of it then, is what was left of it before.
pub record GoesOnFrom (course : CourseValue) (tries : ℕ) : Type 0 where
  pub now : (way_on (course_after course (way_walked course tries))).now ≡ (way_on course).now
  pub stop : (way_on (course_after course (way_walked course tries))).stop ≡ (way_on course).stop
  pub outputs :
      (way_walked course tries).outputs ++ (way_on (course_after course (way_walked course tries))).outputs ≡ (way_on course).outputs

abbrev pub CoursesGoOn : Type 0
CoursesGoOn = (course : CourseValue) (tries : ℕ) → GoesOnFrom course tries

-- What a course from power-on has left is the trace of its script.
abbrev pub CoursesBegin : Type 0
CoursesBegin =
    (set : Parts) (switches : ℕ) (script : List Stretch)
    → way_on (begun (power_on_board set switches) script)
    ≡ trace (by_view set) (record { frames = total_frames script; held = held script }) (power_on_board_view switches)

-- What a course has left, wherever it begins, is the run of its script taken up there.
abbrev pub CoursesAreResumed : Type 0
CoursesAreResumed =
    (board : BoardValue) (script : List Stretch)
    → way_on (begun board script)
    ≡ resumed (by_view board.set) (record { frames = total_frames script; held = held script }) board.state.now
