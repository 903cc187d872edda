-- For proofs: what proofs say of the definitions of Turns.antt.
use Rattle.pac_board_model.specs.BoardView.{BoardView}
use Rattle.pac_board_model.specs.Output.{Output}
use Rattle.pac_board_model.specs.Step.{Moment}
use Rattle.pac_machine.specs.declared.due.Due.{Due}
use Rattle.pac_board.specs.State.{BoardValue, nothing_due, due_outputs, steps_counted}
use Rattle.pac_cpu.specs.Instructions.{most_ticks}
use Rattle.pac_cpu.specs.declared.once.Once.{Once}
use Rattle.pac_cpu.specs.declared.once.Once.TheVariants.{Stepped, Stopped}
use Rattle.pac_cpu.specs.declared.once.Stop.{Stop}
use Rattle.pac_cpu.specs.declared.once.StepKind.{StepKind}
use Rattle.pac_board.specs.Calls.{board_after_step, next_of, outputs_in}
use Rattle.pac_board.specs.CallsLaws.{once_of_board}
use Rattle.pac_board.specs.CallsProofs.{stop_of_once}
use Rattle.pac_board.specs.Sinks.{TookAll}
use Rattle.std.specs.Prelude.{◌≡◌, ◌≤◌, ◌-◌, ◌+◌, ℕ, Option, None, Some, Result, Ok, Err}
use Rattle.pac_board.specs.SinksLaws.{Giving, Cut}

-- the board at a later moment, with something due; its steps up to there are counted
abbrev pub board_at : BoardValue → Moment BoardView → Due → BoardValue
board_at board now due = record {
  set = board.set;
  state = record { now = now; asked = board.state.asked; due = due };
  made = steps_counted board.made (now.steps - board.state.now.steps);
}

pub record IsTurn {S : Type 0} (took : S → Output → S → Type 0) (old : BoardValue) (sink : S) (once : Once) (new : BoardValue) (later : S)
    : Type 0 where
  pub board : new ≡ board_after_step (next_of old) old nothing_due
  pub once_is : once ≡ once_of_board old
  pub sink_is : TookAll took sink (outputs_in (next_of old)) later

pub record IsTurnRefused {S : Type 0} (to : Giving S) (old : BoardValue) (sink : S) (new : BoardValue) (later : S) : Type 0 where
  pub board : new ≡ board_after_step (next_of old) old new.state.due
  pub cut : Cut to sink (outputs_in (next_of old)) (due_outputs new) later

abbrev pub Turns : {S E : Type 0} → Giving S → BoardValue → S → Result (Option Stop) E → BoardValue → S → Type 0
Turns to old sink (Ok stop) new later =
    IsTurn to.took old sink (once_of_board old) new later × (stop ≡ stop_of_once (once_of_board old))
Turns to old sink (Err refusal) new later = IsTurnRefused to old sink new later

-- ---- what is told of a step

-- the answer to whoever asked for it, by the stop, or by its time and its kind
abbrev pub told_once : Option Stop → ℕ → StepKind → Once
told_once None ticks kind = Stepped ticks kind
told_once (Some stop) ticks kind = Stopped stop

-- it takes its time, which is a byte
pub record IsShort (from to : ℕ) : Type 0 where
  pub later : from ≤ to
  pub most : to ≤ from + most_ticks
