-- What a run leaves of writers that are lent, it leaves of their owners.
use Rattle.pac_run.proofs.Common.{BoardValue, Debugs, Err, IsBrokenAt, IsCutAt, IsRunWhole, IsSaveCutAt, List, NothingWritten, Ok, Option}
use Rattle.pac_run.proofs.Common.{Outcome, Plan, Result, Resumes, RunContents, RunFault, RunInputs, Runs, Writing, Writings, arith}
use Rattle.pac_run.proofs.Common.{contents_from, contents_of, lines, rules, setting_of_plan, ℕ}
use Rattle.pac_run.specs.declared.fault.Output.{Output as Which}
use Rattle.pac_run.specs.declared.fault.Output.TheVariants as which
use Rattle.pac_run.specs.declared.fault.RunFault.TheVariants as fault
use Rattle.pac_run.proofs.Lent.{Carries, text-stops, frames-stop, wave-stops, told-till, told-at-wave, line-untold}

module _ {F G W V L K R Q : Type 0} (to : Writings F W L R) (other : Writings G V K Q) (shows : Carries to.frames other.frames)
    (sounds : Carries to.wave other.wave) (lists : Carries to.listing other.listing) (reports : Carries to.report other.report) where
  nothing : NothingWritten to → NothingWritten other
  nothing none = search rules

  whole : (run : RunContents) (outcome : Outcome) → IsRunWhole run to outcome → IsRunWhole run other outcome
  whole run outcome files = record {
    outcome_is = files.outcome_is;
    frames = shows.takes _ files.frames;
    wave = sounds.takes _ files.wave;
    listing = lists.takes _ files.listing;
    report = reports.takes _ files.report;
  }

  abbrev cut : (run : RunContents) (output : Which) (count : ℕ) → IsCutAt run to output count → IsCutAt run other output count
  cut run which.Listing count at = record {
    listing = text-stops lists _ count at.listing;
    frames = shows.still at.frames;
    wave = sounds.still at.wave;
    report = reports.still at.report;
  }
  cut run which.Frames count at = record {
    listing = lists.takes _ at.listing;
    film = frames-stop shows sounds run.frames run.outputs count at.film;
    report = reports.still at.report;
  }
  cut run which.Wave count at = record {
    listing = lists.takes _ at.listing;
    film = wave-stops shows sounds run.frames run.outputs count at.film;
    report = reports.still at.report;
  }
  cut run which.Report count at = record {
    listing = lists.takes _ at.listing;
    frames = shows.takes _ at.frames;
    wave = sounds.takes _ at.wave;
    report = text-stops reports _ count at.report;
  }
  cut run _ count at = at

  pub runs : (inputs : RunInputs) (answer : Result Outcome RunFault) → Runs inputs to answer → Runs inputs other answer
  runs inputs (Ok outcome) ran = search rules
  runs inputs (Err (fault.Write output count)) ran =
      record { plan = ran.plan; plan_is = ran.plan_is; holds = cut (contents_of ran.plan inputs.dip) output count ran.holds }
  runs inputs (Err fault.NoMemory) none = nothing none
  runs inputs (Err _) ran = (ran.0, nothing ran.1)

  module _ {S : Type 0} (state : Writing S) (inputs : RunInputs) (from : Option (List ℕ)) where
    save-cut : (plan : Plan) (board : BoardValue) (output : Which) (count : ℕ)
        → IsSaveCutAt plan inputs.dip from to state output count board → IsSaveCutAt plan inputs.dip from other state output count board
    save-cut plan board which.State count (files, stops) = search rules
    save-cut plan board output count it = (cut (contents_from plan inputs.dip from board) output count it.0, it.1)

    pub resumes : (answer : Result Outcome RunFault) → Resumes inputs from to state answer → Resumes inputs from other state answer
    resumes (Ok outcome) ran = search rules
    resumes (Err (fault.Write output count)) ran = grind (arith, save-cut)
    resumes (Err fault.NoMemory) (none, unsaved) = (nothing none, unsaved)
    resumes (Err _) ran = (ran.0, nothing ran.1, ran.2)

  module _ {T U : Type 0} (words : Writing T) (other_words : Writing U) (tells : Carries words other_words) (inputs : RunInputs)
      (commands : List ℕ) where
    broken : (plan : Plan) (output : Which) (count : ℕ) → IsBrokenAt plan inputs.dip commands to words output count
        → IsBrokenAt plan inputs.dip commands other other_words output count
    broken plan which.Listing count (at, silent) = (cut (contents_of plan inputs.dip) which.Listing count at, tells.still silent)
    broken plan which.Report count (at, told) = search rules
    broken plan which.Frames count (at, told) =
        (cut (contents_of plan inputs.dip) which.Frames count at, told-till tells (setting_of_plan plan inputs.dip) (lines commands) _ told)
    broken plan which.Wave count (at, told) =
        let wave = told-at-wave tells (setting_of_plan plan inputs.dip) (lines commands) _ _ told in
        (cut (contents_of plan inputs.dip) which.Wave count at, wave)
    broken plan which.Text count at = grind (arith, line-untold)
    broken plan which.State count none = none

    pub debugs : (answer : Result Outcome RunFault) → Debugs inputs commands to words answer
        → Debugs inputs commands other other_words answer
    debugs (Ok outcome) ran = search rules
    debugs (Err (fault.Write output count)) ran = grind (arith, broken)
    debugs (Err fault.NoMemory) (none, silent) = (nothing none, tells.still silent)
    debugs (Err _) ran = (ran.0, nothing ran.1, tells.still ran.2)
