-- A course from power-on is the trace of its script.
use Rattle.pac_board_course.proofs.Common.{CourseValue, CoursesBegin, Moment, Next, Questions, ap, arith, begun, by_view, end_of}
use Rattle.pac_board_course.proofs.Common.{frame_ticks, held, held_in, next_in, next_with_inputs, play-timely, play_step, power_on_board}
use Rattle.pac_board_course.proofs.Common.{power_on_board_view, rules, runs-end, step, total_frames, walk, walk-to-ends, walk_to}
use Rattle.pac_board_course.proofs.Common.{ℕ, ◌*◌, ◌∙◌, ◌≡◌}

-- ---- steps that come to the same make the same walk

module _ {Board : Type 0} (one other : Moment Board → Next Board) (limit : ℕ) (same : (now : Moment Board) → one now ≡ other now) where
  pub walk-same : (from : Moment Board) (n : ℕ) → walk one limit from n ≡ walk other limit from n
  walk-same from it2 = search rules

-- so do masks that are the same frame by frame
module _ {Board : Type 0} (ask : Questions Board) (one other : ℕ → ℕ) (same : (frame : ℕ) → one frame ≡ other frame) where
  inputs-same : (time : ℕ) (next : Next Board) → next_with_inputs ask one time next ≡ next_with_inputs ask other time next
  inputs-same time next = search rules

-- ---- from power-on

pub courses-begin : CoursesBegin
courses-begin set switches script =
    let course : CourseValue = begun (power_on_board set switches) script in
    let ask = by_view set in
    let from = course.board.state.now in
    let frames = total_frames script in
    let limit : end_of course ≡ frame_ticks * frames = omega arith in
    let masks : (frame : ℕ) → held_in course frame ≡ held script frame = λ frame. ap (held script) (omega arith) in
    ap (λ limit. walk_to (next_in course) limit from) limit
    ∙ walk-same (next_in course) (play_step ask (held script)) (frame_ticks * frames)
    (λ now. inputs-same ask (held_in course) (held script) masks now.time (step ask now)) from (frame_ticks * frames)
    ∙ (runs-end ask (record { frames = frames; held = held script }) (power_on_board_view switches) (frame_ticks * frames)).1
    (walk-to-ends (play_step ask (held script)) (frame_ticks * frames) (play-timely ask (held script)) from)
