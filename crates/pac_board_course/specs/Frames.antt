-- For proofs: a course as it is kept, and steps of one frame of it in one go.
use Rattle.std.specs.Prelude.{◌≡◌, ◌<◌, ◌≤◌, ℕ, suc, ◌+◌, ◌*◌, ◌/◌, min, List, Option, None, Some, Result, Ok, Err}
use Rattle.pac_board.specs.Stop.{Stop}
use Rattle.pac_board.specs.Output.{Output}
use Rattle.pac_board.specs.PastStep.{PastStep}
use Rattle.pac_board.specs.Step.{Ends, frame_ticks}
use Rattle.pac_board.specs.StopsProofs.{PassesBy}
use Rattle.pac_board.specs.Trails.{IsNoted}
use Rattle.pac_board.specs.SinksLaws.{Giving}
use Rattle.pac_board.specs.Sinks.{TookAll}
use Rattle.pac_board.specs.State.{latest}
use Rattle.pac_inputs.specs.Stretches.{total_frames, most_frames}
use Rattle.pac_board_course.specs.Course.{CourseValue, end_of, next_in, way_walked, course_after}
use Rattle.pac_board_course.specs.CourseProofs.{FitsAsked}
use Rattle.pac_board_course.specs.Plays.{IsCourseHeldUp}

-- what holds of each course
pub record IsCourse (course : CourseValue) : Type 0 where
  pub ends : end_of course ≤ latest
  pub short : total_frames course.script ≤ most_frames
  pub asked : FitsAsked course.board course.script

-- the time of the blank that ends the frame under way
abbrev pub frame_end : CourseValue → ℕ
frame_end course = frame_ticks * suc (course.board.state.now.time / frame_ticks)

-- so many steps were made, without a stop, and the sink took what they gave
pub record IsUnderway {S : Type 0} (took : S → Output → S → Type 0) (old : CourseValue) (sink : S) (new : CourseValue) (later : S)
    : Type 0 where
  pub steps : ℕ
  pub course : new ≡ course_after old (way_walked old steps)
  pub all_steps : new.board.state.now.steps ≡ old.board.state.now.steps + steps
  pub open_yet : (way_walked old steps).stop ≡ None
  pub sink_is : TookAll took sink (way_walked old steps).outputs later

-- why steps in one go ended: one was done at least, or the next one meets a stop in the same frame
abbrev pub HasEndedBy : CourseValue → Option Stop → CourseValue → Type 0
HasEndedBy old None new = old.board.state.now.time < new.board.state.now.time
HasEndedBy old (Some stop) new = (new.board.state.now.time < frame_end old) × (next_in old new.board.state.now ≡ Ends stop)

-- so many steps of the frame under way were done in one go, and the sink took what they gave
pub record HasPlayedInFrame {S : Type 0} (took : S → Output → S → Type 0) (old : CourseValue) (sink : S) (stop : Option Stop)
    (new : CourseValue) (later : S)
    : Type 0 where
  pub played : IsUnderway took old sink new later
  pub ending : HasEndedBy old stop new

abbrev pub PlaysInFrame : {S E : Type 0} → Giving S → CourseValue → S → Result (Option Stop) E → CourseValue → S → Type 0
PlaysInFrame to old sink (Ok stop) new later = HasPlayedInFrame to.took old sink stop new later
PlaysInFrame to old sink (Err refusal) new later = IsCourseHeldUp to old sink new later

-- Steps that begin before a limit, of which none but the first begins where it is to stop; a trail tells them.
pub record GoesTold {S E : Type 0} (to : Giving S) (old : CourseValue) (limit : ℕ) (stops : Option (List ℕ)) (told : Option (List PastStep))
    (sink : S) (result : Result (Option Stop) E) (new : CourseValue) (after : Option (List PastStep)) (later : S) : Type 0 where
  pub made : PlaysInFrame to old sink result new later
  pub told_is : IsNoted (next_in old) (min limit (frame_end old)) old.board.state.now new.board.state.now told after
  pub passes : PassesBy (next_in old) stops old.board.state.now new.board.state.now.steps
