-- Law: what a host does to a board, one act after another: steps, resets, inputs held and let go, and moments kept
-- and gone back to. Like the step it is told over whatever stands for the board, by its history or by its view.
use Rattle.std.specs.Prelude.{ℕ, List, [], ◌∷◌, ◌++◌, map, slice_index_or, unwrap_or}
use Rattle.pac_cpu.specs.PlacedItems.{Item}
use Rattle.pac_cpu.specs.Power.{reset_regs}
use Rattle.pac_map.specs.Entry.{Entry, Reset, Hold}
use Rattle.pac_map.specs.View.{held_with, held_without}
use Rattle.pac_map.specs.RomParts.{Parts}
use Rattle.pac_board_model.specs.BoardView.{BoardView}
use Rattle.pac_board_model.specs.Carried.{moment_view}
use Rattle.pac_board_model.specs.History.{last_held}
use Rattle.pac_board_model.specs.Output.{Output}
use Rattle.pac_board_model.specs.Step.{Questions, Moment, Next, Goes, Ends, step}
use Rattle.pac_board_model.specs.Trace.{by_history, by_view}

pub data Act : Type 0 where
  -- one step of the board
  StepOn : Act
  -- a reset of the board and of its processor
  ResetBoard : Act
  -- the inputs of this mask are held too from now on, or let go
  HoldToo : (mask : ℕ) → Act
  LetGo : (mask : ℕ) → Act
  -- the moment is kept, under the next number; the first is 0
  Keep : Act
  -- back to the moment that was kept under this number
  GoBack : (number : ℕ) → Act

-- what a host's acts ask: what a step asks, and the mask of the inputs held
pub record Account (Board : Type 0) : Type 0 where
  pub ask : Questions Board
  pub held : Board → ℕ

abbrev pub account_by_history : Parts → List Item → BoardView → Account (List Entry)
account_by_history set items start =
    record { ask = by_history set items start; held = λ entries. unwrap_or (last_held entries) start.memory.held }

abbrev pub account_by_view : Parts → Account BoardView
account_by_view set = record { ask = by_view set; held = λ view. view.memory.held }

-- where a host's board stands, the moments that were kept of it, and all that its steps gave out so far, in order
pub record Host (Board : Type 0) : Type 0 where
  pub now : Moment Board
  pub kept : List (Moment Board)
  pub outputs : List Output

-- a host's board before the first act
abbrev pub host_at : {Board : Type 0} → Moment Board → Host Board
host_at now = record { now = now; kept = []; outputs = [] }

-- a host's board after what a step came to; a stop changes nothing
abbrev pub with_step : {Board : Type 0} → Host Board → Next Board → Host Board
with_step host (Goes now outputs kind) = record host { now = now; outputs = host.outputs ++ outputs }
with_step host (Ends stop) = host

-- an entry put by the host: time and steps stay
abbrev pub put_now : {Board : Type 0} → Questions Board → Entry → Moment Board → Moment Board
put_now ask entry now = record now { board = ask.put now.board entry }

abbrev pub after_act : {Board : Type 0} → Account Board → Host Board → Act → Host Board
after_act account host StepOn = with_step host (step account.ask host.now)
after_act account host ResetBoard = record host { now = record (put_now account.ask Reset host.now) { regs = reset_regs host.now.regs } }
after_act account host (HoldToo mask) =
    record host { now = put_now account.ask (Hold (held_with (account.held host.now.board) mask)) host.now }
after_act account host (LetGo mask) =
    record host { now = put_now account.ask (Hold (held_without (account.held host.now.board) mask)) host.now }
after_act account host Keep = record host { kept = host.kept ++ host.now ∷ [] }
after_act account host (GoBack number) = record host { now = slice_index_or host.kept number host.now }

-- a host's board after acts, the first act first
abbrev pub after_acts : {Board : Type 0} → Account Board → Host Board → List Act → Host Board
after_acts account host [] = host
after_acts account host (act ∷ acts) = after_acts account (after_act account host act) acts

-- a host's board in one account, seen as another account has it
abbrev pub host_view : {From To : Type 0} → (From → To) → Host From → Host To
host_view view host =
    record { now = moment_view view host.now; kept = map (moment_view view) host.kept; outputs = host.outputs }
