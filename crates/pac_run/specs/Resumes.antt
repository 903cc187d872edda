-- Believed: what a run writes and answers that may begin with the board of a state file, and whose end is saved as one.
use Rattle.std.specs.Prelude.{◌≡◌, ℕ, ◌+◌, ◌-◌, ◌*◌, min, List, [], Option, None, Some, Result, Ok, Err}
use Rattle.pac_asm.specs.PlacedItems.{Item, AllLie}
use Rattle.pac_board_course.specs.BoardView.{BoardView, IsBoard}
use Rattle.pac_board_course.specs.Carried.{moment_view}
use Rattle.pac_board_course.specs.Course.{frame_microseconds}
use Rattle.pac_board_course.specs.Entry.{Entry}
use Rattle.pac_board_course.specs.History.{board_after_entries}
use Rattle.pac_board_course.specs.Output.{picture_count}
use Rattle.pac_board_course.specs.RomParts.{Parts, IsWhole}
use Rattle.pac_board_course.specs.State.{BoardState, BoardValue, nothing_due}
use Rattle.pac_board_course.specs.Step.{Moment}
use Rattle.pac_board_course.specs.Stretches.{total_frames}
use Rattle.pac_board_course.specs.Trace.{Play, by_history, frames_gone, resumed}
use Rattle.pac_board_course.specs.Walk.{Walk}
use Rattle.pac_debug.specs.Running.{play_of}
use Rattle.pac_state.specs.Files.{IsFile, IsState}
use Rattle.pac_state.specs.Text.{save_text, written_version}
use Rattle.pac_run.specs.declared.fault.Output.{Output as Which}
use Rattle.pac_run.specs.declared.fault.Output.TheVariants.{State}
use Rattle.pac_run.specs.declared.fault.RunFault.{RunFault}
use Rattle.pac_run.specs.declared.fault.RunFault.TheVariants as fault
use Rattle.pac_run.specs.declared.inputs.RunInputs.{RunInputs}
use Rattle.pac_board_course.specs.declared.outcome.Outcome.{Outcome}
use Rattle.pac_run.specs.Plan.{Plan, IsStateRefused, plan_of}
use Rattle.pac_run.specs.Run.{Writing, Writings, RunContents, TakesText, StopsInText, IsUnwritten, NothingWritten, WithPlan}
use Rattle.pac_run.specs.Run.{IsRunWhole, IsCutAt, contents_of, trace_of}
use Rattle.pac_run.specs.Start.{IsFirstBoard}

-- ---- the run

-- a moment of a board's view, of which no history is known but what follows
abbrev pub without_history : Moment BoardView → Moment (List Entry)
without_history now = record { regs = now.regs; board = []; time = now.time; steps = now.steps }

-- a run that is taken up from a board: the source's items on that board, and the history of what happens from then on
abbrev pub run_of_play : Parts → List Item → Play → BoardValue → Walk (List Entry)
run_of_play set items play board = resumed (by_history set items board.state.now.board) play (without_history board.state.now)

abbrev pub resumed_of : Plan → BoardValue → Walk (List Entry)
resumed_of plan board = run_of_play plan.set plan.items (play_of plan.script) board

-- What it came to, counted from where it began: the frames whose pictures it gave, its steps and its time, and its stop, if it met one.
abbrev pub outcome_since : BoardValue → Walk (List Entry) → Outcome
outcome_since board end = record {
  frames = picture_count end.outputs;
  steps = end.now.steps - board.state.now.steps;
  ticks = end.now.time - board.state.now.time;
  stop = end.stop;
}

-- the run from power-on, or the one that is taken up from the board of a state file
abbrev pub run_from : Plan → (dip : ℕ) → (from : Option (List ℕ)) → BoardValue → Walk (List Entry)
run_from plan dip None board = trace_of plan dip
run_from plan dip (Some bytes) board = resumed_of plan board

-- the contents of its four texts
abbrev pub contents_from : Plan → (dip : ℕ) → (from : Option (List ℕ)) → BoardValue → RunContents
contents_from plan dip None board = contents_of plan dip
contents_from plan dip (Some bytes) board = record {
  outputs = (resumed_of plan board).outputs;
  frames = total_frames plan.script;
  listing = plan.listing;
  outcome = outcome_since board (resumed_of plan board);
}

-- ---- the state at its end

-- the frames of a script that have begun at the end of a run, the one under way too, if it ended within one
abbrev pub frames_asked : (total : ℕ) → BoardValue → Walk (List Entry) → ℕ
frames_asked total board end = min total (frames_gone end.now + 1 - frames_gone board.state.now)

-- The state of the board at the end of a run: what the entries leave of it. The microseconds of each frame that has begun were asked
-- for, and nothing is due.
abbrev pub end_state : Parts → (total : ℕ) → BoardValue → Walk (List Entry) → BoardState
end_state set total board end = record {
  now = moment_view (board_after_entries set board.state.now.board) end.now;
  asked = board.state.asked + frame_microseconds * frames_asked total board end;
  due = nothing_due;
}

abbrev pub last_state : Plan → (dip : ℕ) → (from : Option (List ℕ)) → BoardValue → BoardState
last_state plan dip from board = end_state plan.set (total_frames plan.script) board (run_from plan dip from board)

abbrev pub state_text : Plan → (dip : ℕ) → (from : Option (List ℕ)) → BoardValue → List ℕ
state_text plan dip from board = save_text written_version plan.set (last_state plan dip from board)

-- What is played is in order, and so is what comes of it: each part of the set has its size, the items lie in its program, and the run
-- begins and ends with states that a board can have.
pub record IsInOrder (plan : Plan) (dip : ℕ) (from : Option (List ℕ)) (board : BoardValue) : Type 0 where
  pub whole : IsWhole plan.set
  pub lie : AllLie plan.set.program plan.items
  pub starts : IsBoard board.state.now.board
  pub ends : IsState (last_state plan dip from board)

-- ---- the run, by its answer

-- the board that a plan's run begins with, and a fact of it
pub record WithFirstBoard (plan : Plan) (dip : ℕ) (from : Option (List ℕ)) (fact : BoardValue → Type 0) : Type 0 where
  pub board : BoardValue
  pub is_first : IsFirstBoard plan.set dip plan.script from board
  pub holds : fact board

-- all is written, the state too; that is a state file of the set
pub record IsSaved {F W L R S : Type 0} (plan : Plan) (dip : ℕ) (from : Option (List ℕ)) (to : Writings F W L R) (state : Writing S)
    (outcome : Outcome) (board : BoardValue) : Type 0 where
  pub files : IsRunWhole (contents_from plan dip from board) to outcome
  pub state_is : TakesText state (state_text plan dip from board)
  pub file : IsFile plan.set (state_text plan dip from board)
  pub in_order : IsInOrder plan dip from board

-- a refused write: the state comes last, after all the others are whole; where another was refused, nothing of it is written
abbrev pub IsSaveCutAt : {F W L R S : Type 0} → Plan → (dip : ℕ) → (from : Option (List ℕ)) → Writings F W L R → Writing S → Which → ℕ
    → BoardValue → Type 0
IsSaveCutAt plan dip from to state State count board =
    IsRunWhole (contents_from plan dip from board) to (contents_from plan dip from board).outcome
    × StopsInText state (state_text plan dip from board) count
IsSaveCutAt plan dip from to state output count board =
    IsCutAt (contents_from plan dip from board) to output count × IsUnwritten state

abbrev pub Resumes : {F W L R S : Type 0} → RunInputs → (from : Option (List ℕ)) → Writings F W L R → Writing S → Result Outcome RunFault
    → Type 0
Resumes inputs from to state (Ok outcome) =
    WithPlan inputs (λ plan. WithFirstBoard plan inputs.dip from (IsSaved plan inputs.dip from to state outcome))
Resumes inputs from to state (Err (fault.Write output count)) =
    WithPlan inputs (λ plan. WithFirstBoard plan inputs.dip from (IsSaveCutAt plan inputs.dip from to state output count))
Resumes inputs from to state (Err (fault.State refusal)) =
    IsStateRefused inputs from refusal × NothingWritten to × IsUnwritten state
Resumes inputs from to state (Err fault.NoMemory) = NothingWritten to × IsUnwritten state
Resumes inputs from to state (Err refusal) = (plan_of inputs ≡ Err refusal) × NothingWritten to × IsUnwritten state
