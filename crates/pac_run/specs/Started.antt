-- For proofs: the board that a run begins with, and what is played, by the answers of making them.
use Rattle.std.specs.Prelude.{◌≡◌, ℕ, List, Option, Result, Ok, Err}
use Rattle.pac_board_course.specs.BoardView.{IsBoard}
use Rattle.pac_board_course.specs.CourseProofs.{FitsAsked, FitsTime}
use Rattle.pac_board_course.specs.RomParts.{Parts, IsWhole}
use Rattle.pac_board_course.specs.State.{BoardValue, nothing_due}
use Rattle.pac_board_course.specs.Stretch.{Stretch}
use Rattle.pac_state.specs.declared.fault.LoadFault.{LoadFault}
use Rattle.pac_state.specs.declared.fault.LoadFault.TheVariants as loading
use Rattle.pac_run.specs.declared.fault.RunFault.{RunFault}
use Rattle.pac_run.specs.declared.fault.RunFault.TheVariants as fault
use Rattle.pac_run.specs.declared.fault.StateFault.TheVariants.{File}
use Rattle.pac_run.specs.declared.inputs.RunInputs.{RunInputs}
use Rattle.pac_run.specs.declared.plan.Prepared.{Prepared}
use Rattle.pac_run.specs.Plan.{IsStateRefused, plan_of, plan_with}
use Rattle.pac_run.specs.PlanProofs.{PlaysProgram}
use Rattle.pac_run.specs.Start.{IsFirstBoard, IsResumable, RefusesBytes, RefusesState}

-- a fault of a state file, or want of memory
abbrev pub refusal_told : LoadFault → RunFault
refusal_told loading.NoMemory = fault.NoMemory
refusal_told refused = fault.State (File refused)

-- a board of this set to begin a script with, as this says which it is
pub record IsStarted (is_first : BoardValue → Type 0) (set : Parts) (script : List Stretch) (board : BoardValue) : Type 0 where
  pub first : is_first board
  pub set_is : board.set ≡ set
  pub holds : IsBoard board.state.now.board
  pub due : board.state.due ≡ nothing_due
  pub time : FitsTime board script
  pub asked : FitsAsked board script

-- the board of a state file, or why there is none
abbrev pub StartsWith : Parts → List Stretch → (bytes : List ℕ) → Result BoardValue RunFault → Type 0
StartsWith set script bytes (Ok board) = IsStarted (IsResumable set script bytes) set script board
StartsWith set script bytes (Err (fault.State refusal)) = RefusesBytes set script bytes refusal
StartsWith set script bytes (Err fault.NoMemory) = Unit {0}
StartsWith set script bytes (Err refusal) = ⊥

-- the first board of a run, or why there is none
abbrev pub StartsBoard : Parts → (dip : ℕ) → List Stretch → (from : Option (List ℕ)) → Result BoardValue RunFault → Type 0
StartsBoard set dip script from (Ok board) = IsStarted (IsFirstBoard set dip script from) set script board
StartsBoard set dip script from (Err (fault.State refusal)) = RefusesState set script from refusal
StartsBoard set dip script from (Err fault.NoMemory) = Unit {0}
StartsBoard set dip script from (Err refusal) = ⊥

-- the plan, with the board that its run begins with
pub record IsPrepared (inputs : RunInputs) (from : Option (List ℕ)) (prepared : Prepared) : Type 0 where
  pub plan_is : plan_of inputs ≡ Ok (plan_with inputs prepared.program prepared.board.value.set prepared.script)
  pub board : IsStarted (IsFirstBoard prepared.board.value.set inputs.dip prepared.script from) prepared.board.value.set
      prepared.script prepared.board.value
  pub whole : IsWhole prepared.board.value.set
  pub lie : PlaysProgram prepared.board.value.set prepared.program

abbrev pub Prepares : RunInputs → (from : Option (List ℕ)) → Result Prepared RunFault → Type 0
Prepares inputs from (Ok prepared) = IsPrepared inputs from prepared
Prepares inputs from (Err (fault.State refusal)) = IsStateRefused inputs from refusal
Prepares inputs from (Err fault.NoMemory) = Unit {0}
Prepares inputs from (Err refusal) = plan_of inputs ≡ Err refusal
