-- For proofs: a run of what was read, by itself or under a debugger.
use Rattle.std.specs.Prelude.{◌⊎◌, ⊤, ℕ, List, option_copied}
use Rattle.pac_run_files.specs.Files.{FindsFile, Handling}
use Rattle.pac_run_files.specs.Read.{PartUnread}
use Rattle.pac_run_options.specs.CommandLine.{AskedPlay}
use Rattle.pac_run.specs.Run.{Writing}
use Rattle.pac_run_command.specs.Endings.{Ending}
use Rattle.pac_run_command.specs.Outputs.{IsRun, IsUnbegun}
use Rattle.pac_run_command.specs.Programs.{Performing, performing, watching}
use Rattle.pac_run_command.specs.declared.record.Manner.{Manner}
use Rattle.pac_run_command.specs.declared.record.Manner.TheVariants.{Played, Watched}

-- what a run does with the files of its outputs
abbrev pub performing_in : {File R T : Type 0} → (took : File → List ℕ → File → Type 0) → (refused : File → File → Type 0) → Writing R
    → Writing T → Manner → Performing File
performing_in took refused report text (Played from) = performing took refused report (option_copied from)
performing_in took refused report text (Watched commands) = watching took refused report text commands.now

-- what is silent where it isn't begun
abbrev pub silent_in : Manner → (report text : Type 0) → Type 0
silent_in (Played from) report text = report
silent_in (Watched commands) report text = report × text

abbrev pub IsUnwatched : Manner → Type 0
IsUnwatched (Played from) = ⊤
IsUnwatched (Watched commands) = ⊥

-- once the files that the command line names are read: the parts of the set are, and then it is run
abbrev pub RunsGiven : {Disk File C : Type 0} → FindsFile → Handling Disk File → Performing File → (silent : Type 0) → Ending C → AskedPlay
    → Disk → Disk → Type 0
RunsGiven finds handling performs silent ending asked old new =
    IsUnbegun (PartUnread finds asked.run) silent ending old new ⊎ IsRun finds handling performs silent ending asked old new
