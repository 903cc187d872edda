-- Law: a course: a script that is played on a board, and what is left of its run.
use Rattle.std.specs.Prelude.{ℕ, ◌+◌, ◌-◌, ◌*◌, ◌/◌, List, Option}
use Rattle.pac_inputs.specs.Stretches.{total_frames, held}
use Rattle.pac_inputs.specs.declared.line.Stretch.{Stretch}
use Rattle.pac_board.specs.BoardView.{BoardView}
use Rattle.pac_board.specs.Stop.{Stop}
use Rattle.pac_board.specs.Step.{Moment, Next, frame_ticks}
use Rattle.pac_board.specs.Trace.{by_view, play_step}
use Rattle.pac_board.specs.Walk.{Walk, walk, walk_to}
pub use Rattle.pac_board.specs.State.{frame_microseconds}
use Rattle.pac_board.specs.State.{BoardValue, board_with_inputs, nothing_due, steps_counted}
use Rattle.pac_board_course.specs.declared.outcome.Outcome.{Outcome}

-- a board, the script that is played on it, and the frames that had gone by before the script's first
pub record CourseValue : Type 0 where
  pub board : BoardValue
  pub script : List Stretch
  pub gone : ℕ

-- the inputs held in a frame; frames are counted from power-on
abbrev pub held_in : CourseValue → ℕ → ℕ
held_in course frame = held course.script (frame - course.gone)

-- the time of the last frame's blank, at which the run is over
abbrev pub end_of : CourseValue → ℕ
end_of course = frame_ticks * (course.gone + total_frames course.script)

-- what the next step of the run comes to, from a moment, and from where the board is
abbrev pub next_in : CourseValue → Moment BoardView → Next BoardView
next_in course = play_step (by_view course.board.set) (held_in course)

-- what is left of the run: the walk from where the board is to the last frame's blank, or to a stop; and that walk after so many tries
abbrev pub way_on : CourseValue → Walk BoardView
way_on course = walk_to (next_in course) (end_of course) course.board.state.now

abbrev pub way_walked : CourseValue → ℕ → Walk BoardView
way_walked course tries = walk (next_in course) (end_of course) course.board.state.now tries

-- the course where a walk has brought it, nothing being due; and with something else due
abbrev pub course_after : CourseValue → Walk BoardView → CourseValue
course_after course walked = record {
  board = record {
    set = course.board.set;
    state = record { now = walked.now; asked = course.board.state.asked; due = nothing_due };
    made = steps_counted course.board.made (walked.now.steps - course.board.state.now.steps);
  };
  script = course.script;
  gone = course.gone;
}

-- a course at its beginning: the inputs of the script's first frame are held
abbrev pub begun : BoardValue → List Stretch → CourseValue
begun board script = record {
  board = board_with_inputs board (held script 1);
  script = script;
  gone = board.state.now.time / frame_ticks;
}

-- ---- what a run came to

-- a run that ended at this moment, with this stop, if it met one
abbrev pub outcome_at : Moment BoardView → Option Stop → Outcome
outcome_at now stop = record { frames = now.time / frame_ticks; steps = now.steps; ticks = now.time; stop = stop }

-- ---- microseconds asked
