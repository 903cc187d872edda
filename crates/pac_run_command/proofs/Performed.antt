-- A run over writers that are lent, with its fault told as a failure.
use Rattle.pac_run_command.proofs.Common.{Bor, Carries, Err, Failure, HoldsByAnswer, IsUnwritten, List, None, Ok, Option, Outcome}
use Rattle.pac_run_command.proofs.Common.{PerformsRun, PerformsWatched, Result, Resumes, RunFault, RunInputs, Runs, RunsOrResumes, Writing}
use Rattle.pac_run_command.proofs.Common.{Writings, debugs, false, is_some, itself, option_copied, resumes, runs, true, ℕ, ◌||◌, ◌≡◌}

by-answer : {one other : Result Outcome RunFault → Type 0} → ((answer : Result Outcome RunFault) → one answer → other answer)
    → (answer : Result Outcome Failure) → HoldsByAnswer one answer → HoldsByAnswer other answer
by-answer onward (Ok outcome) holds = onward (Ok outcome) holds
by-answer onward (Err failure) holds = record { fault = holds.fault; told = holds.told; left = onward (Err holds.fault) holds.left }

module _ {F G W V L K R Q : Type 0} (to : Writings F W L R) (other : Writings G V K Q) (shows : Carries to.frames other.frames)
    (sounds : Carries to.wave other.wave) (lists : Carries to.listing other.listing) (reports : Carries to.report other.report) where
  module _ {S : Type 0} (state : Writing (Option S)) (inputs : RunInputs) where
    one-of : (from : Option (List ℕ)) (named : Option S) (answer : Result Outcome RunFault)
        → RunsOrResumes inputs from to state named answer → RunsOrResumes inputs from other state named answer
    one-of None None answer (ran, unsaved) = (runs to other shows sounds lists reports inputs answer ran, unsaved)
    one-of from named answer ran = resumes to other shows sounds lists reports state inputs from answer ran

    pub performed : (from : Option (List ℕ)) (answer : Result Outcome Failure) → PerformsRun inputs from to state answer
        → PerformsRun inputs from other state answer
    performed from answer ran = by-answer (one-of from state.old) answer ran

  pub watched : {T : Type 0} (words : Writing T) (inputs : RunInputs) (commands : List ℕ) (answer : Result Outcome Failure)
      → PerformsWatched inputs commands to words answer → PerformsWatched inputs commands other words answer
  watched words inputs commands answer ran =
      by-answer (debugs to other shows sounds lists reports words words (itself words) inputs commands) answer ran

-- a state is named, to begin with or to be saved, or it isn't
module _ {F W L R S : Type 0} (to : Writings F W L R) (state : Writing (Option S)) (inputs : RunInputs) where
  pub resumed : (from : Option (Bor (List ℕ))) (named : Option S) (answer : Result Outcome RunFault)
      → true ≡ (is_some from || is_some named) → Resumes inputs (option_copied from) to state answer
      → RunsOrResumes inputs (option_copied from) to state named answer
  resumed None None answer some ran = absurd (cc)
  resumed _ _ answer some ran = ran

  pub started : (from : Option (Bor (List ℕ))) (named : Option S) (answer : Result Outcome RunFault)
      → false ≡ (is_some from || is_some named) → Runs inputs to answer → IsUnwritten state
      → RunsOrResumes inputs (option_copied from) to state named answer
  started None None answer none ran unsaved = (ran, unsaved)
  started _ _ answer none ran unsaved = absurd (cc)
