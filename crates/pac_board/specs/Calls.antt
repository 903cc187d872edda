-- Believed: what the calls that make steps do, by their answers.
use Rattle.std.specs.Prelude.{ℕ, ◌+◌, ◌-◌, List, ◌++◌}
use Rattle.pac_board_model.specs.BoardView.{BoardView}
use Rattle.pac_board_model.specs.Output.{Output}
use Rattle.pac_board_model.specs.Step.{step}
use Rattle.pac_board_model.specs.Trace.{by_view}
use Rattle.pac_board_model.specs.Walk.{Walk, walk, walk_to}
pub use Rattle.pac_machine.specs.Standing.{next_from_moment}
pub use Rattle.pac_machine.specs.StandingProofs.{now_after}
use Rattle.pac_board.specs.State.{BoardValue, due_outputs, nothing_due}
use Rattle.pac_board.specs.State.{time_of, steps_counted}
use Rattle.pac_board_model.specs.Step.{Next, Goes, Ends}
use Rattle.std.specs.Prelude.{[]}
use Rattle.pac_machine.specs.declared.due.Due.{Due}

-- ---- the way of a board

-- its walk up to a time: after so many tries, and to its end
abbrev pub way_at : BoardValue → ℕ → ℕ → Walk BoardView
way_at board limit tries = walk (step (by_view board.set)) limit board.state.now tries

abbrev pub way : BoardValue → ℕ → Walk BoardView
way board limit = walk_to (step (by_view board.set)) limit board.state.now

-- the board where a walk has brought it, nothing being due
abbrev pub board_after_walk : BoardValue → Walk BoardView → BoardValue
board_after_walk board walked = record {
  set = board.set;
  state = record { now = walked.now; asked = board.state.asked; due = nothing_due };
  made = steps_counted board.made (walked.now.steps - board.state.now.steps);
}

-- ---- steps for so many microseconds

abbrev pub course : BoardValue → ℕ → Walk BoardView
course board microseconds = way board (time_of (board.state.asked + microseconds))

-- what a call for so many microseconds offers in all: what was due, and what its steps give
abbrev pub outputs_given : BoardValue → ℕ → List Output
outputs_given board microseconds = due_outputs board ++ (course board microseconds).outputs

-- the board where a walk has brought it, nothing being due
abbrev pub board_after_course : BoardValue → ℕ → Walk BoardView → BoardValue
board_after_course board microseconds walked = record {
  set = board.set;
  state = record { now = walked.now; asked = board.state.asked + microseconds; due = nothing_due };
  made = steps_counted board.made (walked.now.steps - board.state.now.steps);
}

-- the board after a call for so many microseconds, where the sink takes all
abbrev pub board_after_run : BoardValue → ℕ → BoardValue
board_after_run board microseconds = board_after_course board microseconds (course board microseconds)

-- the T-states that a call for so many microseconds takes
abbrev pub run_ticks : BoardValue → ℕ → ℕ
run_ticks board microseconds = (board_after_run board microseconds).state.now.time - board.state.now.time

-- ---- one step

-- what the next step of a board comes to
abbrev pub next_of : BoardValue → Next BoardView
next_of board = next_from_moment board.set board.state.now

abbrev pub outputs_in : Next BoardView → List Output
outputs_in (Goes now outputs kind) = outputs
outputs_in (Ends stop) = []

-- the board after a step, with what is due then; a stop changes nothing
abbrev pub board_after_step : Next BoardView → BoardValue → Due → BoardValue
board_after_step (Goes now outputs kind) board due =
    record { set = board.set; state = record { now = now; asked = board.state.asked; due = due }; made = steps_counted board.made 1 }
board_after_step (Ends stop) board due = board

-- the board with something else due
abbrev pub with_due : BoardValue → Due → BoardValue
with_due board due =
    record { set = board.set; state = record { now = board.state.now; asked = board.state.asked; due = due }; made = board.made }
