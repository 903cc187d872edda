-- A run that was done leaves a file for each output.
use Rattle.pac_run_command.proofs.Common.{AllBegun, Err, Failure, Handling, List, None, Ok, Option, Outcome, PerformsRun, Result, Resumes}
use Rattle.pac_run_command.proofs.Common.{RunInputs, RunsOrResumes, Some, Writings, option_to_list, refused_if_there, state_output}
use Rattle.pac_run_command.proofs.Common.{took_if_there, writing, ℕ, ◌≡◌}
use Rattle.pac_run_command.proofs.Failing.{AreFor}

module _ {Disk File R : Type 0} (handling : Handling Disk File) (took : File → List ℕ → File → Type 0) (refused : File → File → Type 0)
    (inputs : RunInputs) (to : Writings File File File R) where
  -- by what a run that names no state file to begin with, or one, comes to
  pub done-from : (from : Option (List ℕ)) (draft : File) (left : Option File) (outcome : Outcome)
      → RunsOrResumes inputs from to (writing (took_if_there took) (refused_if_there refused) (Some draft) left) (Some draft) (Ok outcome)
      → Resumes inputs from to (writing (took_if_there took) (refused_if_there refused) (Some draft) left) (Ok outcome)
  done-from None draft left outcome ran = ran
  done-from (Some bytes) draft left outcome ran = ran

  pub state-there : (from save : Option (List ℕ)) (created left : Option File) (old new : Disk) (outcome : Outcome)
      (ran : Result Outcome Failure) → ran ≡ Ok outcome → AllBegun handling old (state_output save) (option_to_list created) new
      → PerformsRun inputs from to (writing (took_if_there took) (refused_if_there refused) created left) ran
      → AreFor (state_output save) (option_to_list left)
  state-there from None created left old new outcome ran is begun performs = tt
  state-there from (Some path) None left old new outcome ran is begun performs = absurd begun
  state-there from (Some path) (Some draft) (Some final) old new outcome ran is begun performs = tt
  state-there from (Some path) (Some draft) None old new outcome (Ok ended) is begun performs =
      absurd (done-from from draft None ended performs).holds.holds.state_is
  state-there from (Some path) (Some draft) None old new outcome (Err failure) is begun performs = absurd (cc)
