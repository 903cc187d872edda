-- For proofs: what playing a course leaves of it and of the sink.
use Rattle.std.specs.Prelude.{◌≡◌, ℕ, suc, ◌+◌, Option, Result, Ok, Err}
use mathlib.Core.List.{IsPrefix}
use Rattle.pac_board.specs.Stop.{Stop}
use Rattle.pac_board.specs.Output.{Output}
use Rattle.pac_board.specs.SinksLaws.{Giving, Cut}
use Rattle.pac_board.specs.Sinks.{TookAll}
use Rattle.pac_board.specs.State.{due_outputs}
use Rattle.pac_board_course.specs.Course.{CourseValue, way_on, way_walked, course_after}
use Rattle.pac_board_course.specs.CourseProofs.{course_with_due}

-- ---- to the end

-- the run is over, by its time or by a stop, and the sink took all that was left of it
pub record IsOver {S : Type 0} (took : S → Output → S → Type 0) (old : CourseValue) (sink : S) (stop : Option Stop) (new : CourseValue)
    (later : S)
    : Type 0 where
  pub course : new ≡ course_after old (way_on old)
  pub stop_is : stop ≡ (way_on old).stop
  pub sink_is : TookAll took sink (way_on old).outputs later

-- The sink refused an output: the course stands after the step that gave it, and that output and what the step gave after it are due.
-- All that was given before was taken.
pub record IsCourseHeldUp {S : Type 0} (to : Giving S) (old : CourseValue) (sink : S) (new : CourseValue) (later : S) : Type 0 where
  pub steps : ℕ
  pub course : new ≡ course_with_due (course_after old (way_walked old steps)) new.board.state.due
  pub all_steps : new.board.state.now.steps ≡ old.board.state.now.steps + steps
  pub cut : Cut to sink (way_walked old steps).outputs (due_outputs new.board) later
  pub of_last : (before : ℕ) → steps ≡ suc before → IsPrefix (way_walked old before).outputs cut.taken

abbrev pub RunsToEnd : {S E : Type 0} → Giving S → CourseValue → S → Result (Option Stop) E → CourseValue → S → Type 0
RunsToEnd to old sink (Ok stop) new later = IsOver to.took old sink stop new later
RunsToEnd to old sink (Err refusal) new later = IsCourseHeldUp to old sink new later
