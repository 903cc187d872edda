-- Law: the laws of the steps that a session's board makes, each proved on a public function of the crate.
use Rattle.std.specs.Prelude.{◌≤◌, ℕ, ◌+◌, ◌-◌, List, [], ◌∷◌, Option, Some, Result, Ok}
use Rattle.pac_board.specs.SinksLaws.{Giving}
use Rattle.pac_debug_text.specs.declared.command.Command.TheVariants as commands
use Rattle.pac_debug_text.specs.declared.command.Command.{Command}
use Rattle.pac_debug_text.specs.declared.command.NoCommand.{NoCommand}
use Rattle.pac_debug_text.specs.Commands.{command_of}
use Rattle.pac_debug_session.specs.Motions.{checkpoint_steps}
use Rattle.pac_debug_session.specs.Outcome.{Outcome}
use Rattle.pac_debug_session.specs.RunningLaws.{whole_run}
use Rattle.pac_debug_session.specs.Session.{SessionValue}
use Rattle.pac_debug_session.specs.SessionLaws.{IsSession}
use Rattle.pac_debug.specs.declared.line.CommandFault.{CommandFault}
use Rattle.pac_debug.specs.GoingOn.{LineAnswer, AnswersEach}
use Rattle.pac_debug.specs.ObeyingLaws.{Scene}
use Rattle.pac_debug.specs.WatchedLaws.{WatchesSession}

-- The steps for which a line is the cause that the board makes them once more, at most. Going back by n makes those from the checkpoint
-- before the index again, and those n may be gone through again. Going to a slot makes none, and all up to the furthest index may be
-- gone through again. All others only go on.
abbrev pub steps_again : (furthest : ℕ) → Option (Result Command NoCommand) → ℕ
steps_again furthest (Some (Ok (commands.Back count))) = count + (checkpoint_steps - 1)
steps_again furthest (Some (Ok (commands.Return slot))) = furthest
steps_again furthest other = 0

abbrev pub all_steps_again : (furthest : ℕ) → (lines : List (List ℕ)) → ℕ
all_steps_again furthest [] = 0
all_steps_again furthest (line ∷ lines) = steps_again furthest (command_of line) + all_steps_again furthest lines

-- The board makes no more steps than lead from where the session was to the furthest index that it has been at, which is an index of
-- the trace, and those that the lines have it make once more.
pub record MakesNoMore (lines : List (List ℕ)) (old new : SessionValue) : Type 0 where
  pub made : new.made ≤ old.made + (new.furthest - old.index) + all_steps_again new.furthest lines
  pub of_the_trace : new.furthest ≤ (whole_run old.setting).now.steps

-- whatever the lines ask, and however each is answered
abbrev pub LinesMakeNoMore : {S W : Type 0} → Giving S → (wrote : W → List ℕ → W → Type 0) → (balked : W → W → Type 0) → Type 0
LinesMakeNoMore {S} {W} to wrote balked =
    (lines : List (List ℕ)) (answers : List LineAnswer) (old new : Scene S W) → IsSession old.session
    → AnswersEach to wrote balked lines answers old new → MakesNoMore lines old.session new.session

-- So it is over a whole session, with the way to the end of the run after its lines.
abbrev pub SessionsMakeNoMore : {S W : Type 0} → Giving S → (wrote : W → List ℕ → W → Type 0) → (balked : W → W → Type 0) → Type 0
SessionsMakeNoMore {S} {W} to wrote balked =
    (lines : List (List ℕ)) (old : Scene S W) (result : Result Outcome CommandFault) (new : Scene S W) → IsSession old.session
    → WatchesSession to wrote balked lines old result new → MakesNoMore lines old.session new.session
