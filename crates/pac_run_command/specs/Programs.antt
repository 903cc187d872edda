-- Believed: what assembling a source leaves of its two outputs, and what a run leaves, by the answer; and the same over files.
use Rattle.std.specs.Prelude.{◌≡◌, ℕ, List, Option, None, Result, Ok, Err}
use Rattle.pac_asm.specs.Programs.{program_of}
use Rattle.pac_listing.specs.Listing.{listing}
use Rattle.pac_asm.specs.Assembled.{Assembled}
use Rattle.pac_run.specs.Debugs.{Debugs}
use Rattle.pac_run.specs.Resumes.{Resumes}
use Rattle.pac_run.specs.Run.{Writing, Writings, Runs, TakesText, StopsInText, IsUnwritten, writing}
use Rattle.pac_run.specs.Writes.{took_if_there, refused_if_there}
use Rattle.pac_run.specs.declared.fault.Output.TheVariants.{Listing}
use Rattle.pac_run.specs.declared.fault.RunFault.{RunFault}
use Rattle.pac_run.specs.declared.inputs.RunInputs.{RunInputs}
use Rattle.pac_run.specs.Outcome.{Outcome}
use Rattle.pac_run_command.specs.declared.asm.AsmOutputs.{AsmOutputs}
use Rattle.pac_run_command.specs.declared.failure.Failure.{Failure}
use Rattle.pac_run_command.specs.declared.failure.Failure.TheVariants.{Source, Write, Memory}
use Rattle.pac_run_command.specs.declared.failure.Target.TheVariants.{Of, Rom}
use Rattle.pac_run_command.specs.declared.outputs.Outputs.{Outputs}
use Rattle.pac_run_command.specs.Failures.{failure_of}

-- the program of a source, and a fact of it
pub record WithProgram (source : List ℕ) (fact : Assembled → Type 0) : Type 0 where
  pub program : Assembled
  pub program_is : program_of source ≡ Ok program
  pub holds : fact program

-- nothing was written to either output
abbrev pub NeitherIsWritten : {R L : Type 0} → Writing R → Writing L → Type 0
NeitherIsWritten rom list = IsUnwritten rom × IsUnwritten list

-- Done: each output has exactly its text. A write that was refused: that output took so many bytes of its text; the ROM
-- comes before the listing. The source's fault, or want of memory: nothing was written.
abbrev pub Assembles : {R L : Type 0} → List ℕ → Writing R → Writing L → Result Unit Failure → Type 0
Assembles source rom list (Ok done) =
    WithProgram source (λ program. TakesText rom program.rom × TakesText list (listing program source))
Assembles source rom list (Err (Write Rom count)) =
    WithProgram source (λ program. StopsInText rom program.rom count × IsUnwritten list)
Assembles source rom list (Err (Write (Of Listing) count)) =
    WithProgram source (λ program. TakesText rom program.rom × StopsInText list (listing program source) count)
Assembles source rom list (Err (Source fault)) = (program_of source ≡ Err fault) × NeitherIsWritten rom list
Assembles source rom list (Err Memory) = NeitherIsWritten rom list
Assembles source rom list (Err other) = ⊥

-- what a run's fault was, and what it left
pub record IsRunFailure (leaves : RunFault → Type 0) (failure : Failure) : Type 0 where
  pub fault : RunFault
  pub told : failure ≡ failure_of fault
  pub left : leaves fault

-- what holds by a run's answer, its faults told as the program's failures
abbrev pub HoldsByAnswer : (Result Outcome RunFault → Type 0) → Result Outcome Failure → Type 0
HoldsByAnswer holds (Ok outcome) = holds (Ok outcome)
HoldsByAnswer holds (Err failure) = IsRunFailure (λ fault. holds (Err fault)) failure

-- A run where no state is named, neither to begin with nor to be saved: from power-on. Where one is, a run that may begin with one, and
-- whose end may be saved.
abbrev pub RunsOrResumes : {F W L R S : Type 0} → RunInputs → (from : Option (List ℕ)) → Writings F W L R → (state : Writing (Option S))
    → (named : Option S) → Result Outcome RunFault → Type 0
RunsOrResumes inputs None to state None answer = Runs inputs to answer × IsUnwritten state
RunsOrResumes inputs from to state named answer = Resumes inputs from to state answer

-- a run of the program: a file for the state is there where one is named
abbrev pub PerformsRun : {F W L R S : Type 0} → RunInputs → (from : Option (List ℕ)) → Writings F W L R → (state : Writing (Option S))
    → Result Outcome Failure → Type 0
PerformsRun inputs from to state answer = HoldsByAnswer (RunsOrResumes inputs from to state state.old) answer

-- a run of the program under a debugger
abbrev pub PerformsWatched : {F W L R T : Type 0} → RunInputs → (commands : List ℕ) → Writings F W L R → Writing T
    → Result Outcome Failure → Type 0
PerformsWatched inputs commands to text answer = HoldsByAnswer (Debugs inputs commands to text) answer

-- ---- over files, by the two relations of their writers: as they were created, and as the work left them

-- what assembling a source does with its two files
abbrev pub Assembling : Type 0 → Type 1
Assembling File = (source : List ℕ) → Result Unit Failure → (created left : AsmOutputs File) → Type 0

abbrev pub assembling : {File : Type 0} → (took : File → List ℕ → File → Type 0) → (refused : File → File → Type 0) → Assembling File
assembling took refused source answer created left =
    Assembles source (writing took refused created.rom left.rom) (writing took refused created.listing left.listing) answer

-- what a run does with its files
abbrev pub Performing : Type 0 → Type 1
Performing File = Result Outcome Failure → RunInputs → (created left : Outputs File) → Type 0

abbrev pub writings_of : {File R : Type 0} → (took : File → List ℕ → File → Type 0) → (refused : File → File → Type 0)
    → (created left : Outputs File) → Writing R → Writings File File File R
writings_of took refused created left report = record {
  frames = writing took refused created.frames left.frames;
  wave = writing took refused created.wave left.wave;
  listing = writing took refused created.listing left.listing;
  report = report;
}

abbrev pub performing : {File R : Type 0} → (took : File → List ℕ → File → Type 0) → (refused : File → File → Type 0) → Writing R
    → (from : Option (List ℕ)) → Performing File
performing took refused report from answer inputs created left =
    PerformsRun inputs from (writings_of took refused created left report)
    (writing (took_if_there took) (refused_if_there refused) created.state left.state) answer

-- under a debugger a run writes no state
abbrev pub watching : {File R T : Type 0} → (took : File → List ℕ → File → Type 0) → (refused : File → File → Type 0) → Writing R
    → Writing T → (commands : List ℕ) → Performing File
watching took refused report text commands answer inputs created left =
    PerformsWatched inputs commands (writings_of took refused created left report) text answer × (left.state ≡ created.state)
