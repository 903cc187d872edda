-- Believed: one step of a live board, with its outputs.
use Rattle.std.specs.Prelude.{◌≡◌, ◌<◌, ◌≤◌, ℕ, ℤ, ◌-◌, List, ◌++◌, drop, Option, None, Some, Ok, Err}
use Rattle.pac_board.specs.BoardView.{BoardView}
use Rattle.pac_board.specs.Calls.{next_of, outputs_in, board_after_step, with_due}
use Rattle.pac_board.specs.Output.{Output, sound_count, picture_count}
use Rattle.pac_board.specs.State.{BoardValue, due_outputs, latest, nothing_due}
use Rattle.pac_board.specs.Step.{Next, Goes, Ends}
use Rattle.pac_board.specs.Stop.{Stop}
use Rattle.pac_block.specs.declared.codes.HostFault.{HostFault}
use Rattle.pac_block.specs.declared.codes.HostFault.TheVariants.{TooLong, NoRoom}
use Rattle.pac_block.specs.declared.ran.PacRan.{PacRan}
use Rattle.pac_block.specs.Codes.{ran_of}
use Rattle.pac_block.specs.Host.{room_of, samples_given}
use Rattle.pac_live.specs.Live.{BoardCall}
use Rattle.pac_live.specs.LiveTime.{IsRanTold}

-- what one step gives: what was due, and its own outputs
abbrev pub outputs_of_one : BoardValue → List Output
outputs_of_one board = due_outputs board ++ outputs_in (next_of board)

-- the board after one step, with nothing due; a stop is no step
abbrev pub board_after_one : BoardValue → BoardValue
board_after_one board = board_after_step (next_of board) (with_due board nothing_due) nothing_due

abbrev pub stop_of_next : Next BoardView → Option Stop
stop_of_next (Goes now outputs kind) = None
stop_of_next (Ends stop) = Some stop

-- exactly one step was done, or the stop was met; what was asked of the board in all stays
pub record HasStepped (old : BoardValue) (samples : List ℤ) (new : BoardValue) (samples_after : List ℤ) (ran : PacRan) : Type 0 where
  pub early : old.state.now.time < latest
  pub room : 2 ≤ room_of samples
  pub board : new ≡ board_after_one old
  pub samples_are : samples_after ≡ samples_given (outputs_of_one old) ++ drop (sound_count (outputs_of_one old)) samples
  pub ran_is :
      ran
      ≡ ran_of (new.state.now.time - old.state.now.time) (sound_count (outputs_of_one old)) (picture_count (outputs_of_one old))
      (stop_of_next (next_of old))

-- the board's time is over, or there is no room for two samples
abbrev pub StepFails : BoardValue → (samples : List ℤ) → HostFault → Type 0
StepFails board samples TooLong = latest ≤ board.state.now.time
StepFails board samples NoRoom = (board.state.now.time < latest) × (room_of samples < 2)
StepFails board samples fault = ⊥

abbrev pub Stepping : (samples samples_after : List ℤ) (told told_after : List ℕ) → BoardCall
Stepping samples samples_after told told_after (Ok done) old new = IsRanTold (HasStepped old samples new samples_after) told_after
Stepping samples samples_after told told_after (Err fault) old new =
    StepFails old samples fault × (new ≡ old) × (samples_after ≡ samples) × (told_after ≡ told)
