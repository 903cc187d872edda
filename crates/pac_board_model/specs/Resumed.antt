-- Law: laws of plays that are taken up, at whichever moment, each proved on a public function of the crate: a run that is
-- cut in two and taken up again is the run at once.
use Rattle.std.specs.Prelude.{◌≡◌, ◌<◌, ℕ, ◌+◌, ◌*◌, ◌/◌, ◌%◌, true, None, Some, List, ◌++◌}
use Rattle.pac_cpu.specs.PlacedItems.{Item, AllLie}
use Rattle.pac_cpu.specs.declared.once.Stop.{Stop}
use Rattle.pac_map.specs.RomParts.{Parts, IsWhole}
use Rattle.pac_map.specs.Entry.{Entry, Hold}
use Rattle.pac_board_model.specs.BoardView.{BoardView, IsBoard}
use Rattle.pac_board_model.specs.Carried.{moment_view, walk_view}
use Rattle.pac_board_model.specs.History.{board_after_entries}
use Rattle.pac_board_model.specs.Step.{frame_samples}
use Rattle.pac_board_model.specs.Output.{sound_count, picture_count}
use Rattle.pac_board_model.specs.ShownLaws.{history_outputs}
use Rattle.pac_board_model.specs.Step.{Questions, Moment, sample_ticks, frame_ticks}
use Rattle.pac_board_model.specs.Trace.{Play, by_history, by_view, power_on_moment, run_at, trace, frame_steps}
use Rattle.pac_board_model.specs.Trace.{frames_gone, resumed_end, resumed}
use Rattle.pac_board_model.specs.TraceLaws.{resumed_at, plays_joined}
use Rattle.pac_board_model.specs.WalkLaws.{has_ended}

-- ---- where runs begin and end

-- A run from power-on is that of its play taken up then.
pub record BeginsAtPowerOn {Board : Type 0} (ask : Questions Board) (play : Play) (board : Board) : Type 0 where
  pub at : (index : ℕ) → resumed_at ask play (power_on_moment board) index ≡ run_at ask play board index
  pub whole : resumed ask play (power_on_moment board) ≡ trace ask play board

abbrev pub RunsBegin : Type 0 → Type 0
RunsBegin Board = (ask : Questions Board) (play : Play) (board : Board) → BeginsAtPowerOn ask play board

-- The whole of a run has ended, and it is the run of as many steps as its frames can have, and of each number at which it has ended.
pub record EndsAsOne {Board : Type 0} (ask : Questions Board) (play : Play) (from : Moment Board) : Type 0 where
  pub ended : has_ended (resumed_end play (frames_gone from)) (resumed ask play from) ≡ true
  pub enough : resumed_at ask play from (frame_steps * play.frames) ≡ resumed ask play from
  pub one :
      (index : ℕ) → has_ended (resumed_end play (frames_gone from)) (resumed_at ask play from index) ≡ true
      → resumed_at ask play from index ≡ resumed ask play from

abbrev pub ResumedRunsEnd : Type 0 → Type 0
ResumedRunsEnd Board = (ask : Questions Board) (play : Play) (from : Moment Board) → EndsAsOne ask play from

-- ---- two plays, one after another

-- What the first play's run gives, and then what the second's gives, taken up where the first's ended, is what the run of both gives
-- at once. It ends at the same moment, and with the same stop, if any.
pub record JoinsPlays {Board : Type 0} (ask : Questions Board) (first second : Play) (from : Moment Board) : Type 0 where
  pub now : (resumed ask second (resumed ask first from).now).now ≡ (resumed ask (plays_joined first second) from).now
  pub stop : (resumed ask second (resumed ask first from).now).stop ≡ (resumed ask (plays_joined first second) from).stop
  pub outputs :
      (resumed ask first from).outputs ++ (resumed ask second (resumed ask first from).now).outputs
      ≡ (resumed ask (plays_joined first second) from).outputs

-- of inputs that are held at one moment the last ones stay
abbrev pub LastIsHeld : {Board : Type 0} → Questions Board → Type 0
LastIsHeld {Board = Board} ask =
    (board : Board) (before mask : ℕ) → ask.put (ask.put board (Hold before)) (Hold mask) ≡ ask.put board (Hold mask)

-- A run that met no stop goes on, on whatever stands for the board and keeps the inputs held last alone.
abbrev pub RunsAreContinued : Type 0 → Type 0
RunsAreContinued Board =
    (ask : Questions Board) (first second : Play) (from : Moment Board) → LastIsHeld ask → (resumed ask first from).stop ≡ None
    → JoinsPlays ask first second from

-- So a board's runs go on, from whichever moment.
abbrev pub PlaysJoin : Type 0
PlaysJoin =
    (set : Parts) (first second : Play) (from : Moment BoardView) → (resumed (by_view set) first from).stop ≡ None
    → JoinsPlays (by_view set) first second from

-- A run that met a stop stays there: it is that of both plays.
abbrev pub StoppedRunsStay : Type 0 → Type 0
StoppedRunsStay Board =
    (ask : Questions Board) (first second : Play) (from : Moment Board) (stop : Stop) → (resumed ask first from).stop ≡ Some stop
    → resumed ask (plays_joined first second) from ≡ resumed ask first from

-- ---- history and view

-- From any view of a board on, and after any entries: the run told by the source's items and the history is the run told by the bytes
-- and the view, at each number of steps, and so is the whole of it.
pub record ResumedAgrees (set : Parts) (items : List Item) (start : BoardView) (play : Play) (from : Moment (List Entry)) : Type 0 where
  pub at : (index : ℕ)
      → walk_view (board_after_entries set start) (resumed_at (by_history set items start) play from index)
      ≡ resumed_at (by_view set) play (moment_view (board_after_entries set start) from) index
  pub whole :
      walk_view (board_after_entries set start) (resumed (by_history set items start) play from)
      ≡ resumed (by_view set) play (moment_view (board_after_entries set start) from)

abbrev pub ResumedRunsAgree : Type 0
ResumedRunsAgree =
    (set : Parts) (items : List Item) (start : BoardView) (play : Play) (from : Moment (List Entry)) → IsWhole set
    → AllLie set.program items → IsBoard start → ResumedAgrees set items start play from

-- ---- what is given out

-- What the history gave out before, and then what the run gives, is what the history gives out after it.
abbrev pub ResumedOutputsAreOfTheHistory : Type 0
ResumedOutputsAreOfTheHistory =
    (set : Parts) (items : List Item) (start : BoardView) (play : Play) (from : Moment (List Entry)) (index : ℕ)
    → let run = resumed_at (by_history set items start) play from index in
    history_outputs set start from.board ++ run.outputs ≡ history_outputs set start run.now.board

-- A sample comes at each multiple of 32 T-states that the run goes through, and a picture at each of 50,688.
pub record IsTimed {Board : Type 0} (ask : Questions Board) (play : Play) (from : Moment Board) (index : ℕ) : Type 0 where
  pub samples : sound_count (resumed_at ask play from index).outputs + from.time / sample_ticks
      ≡ (resumed_at ask play from index).now.time / sample_ticks
  pub pictures : picture_count (resumed_at ask play from index).outputs + frames_gone from
      ≡ frames_gone (resumed_at ask play from index).now

abbrev pub ResumedRunsAreTimed : Type 0 → Type 0
ResumedRunsAreTimed Board = (ask : Questions Board) (play : Play) (from : Moment Board) (index : ℕ) → IsTimed ask play from index

-- A run that met no stop has a picture for each frame of its play, and as many frames more have gone by. Taken up less than a sample
-- past a frame's blank it has 1,584 samples for each frame, too, and ends less than a sample past a blank.
pub record HasItsFrames {Board : Type 0} (ask : Questions Board) (play : Play) (from : Moment Board) : Type 0 where
  pub pictures : picture_count (resumed ask play from).outputs ≡ play.frames
  pub gone : frames_gone (resumed ask play from).now ≡ frames_gone from + play.frames
  pub samples : from.time % frame_ticks < sample_ticks → sound_count (resumed ask play from).outputs ≡ frame_samples * play.frames
  pub near : from.time % frame_ticks < sample_ticks → (resumed ask play from).now.time % frame_ticks < sample_ticks

abbrev pub ResumedRunsHaveTheirFrames : Type 0 → Type 0
ResumedRunsHaveTheirFrames Board =
    (ask : Questions Board) (play : Play) (from : Moment Board) → (resumed ask play from).stop ≡ None → HasItsFrames ask play from
