-- Believed: what the program does with the files of a run: which it reads, which it creates, what these have then, and
-- how it ends.
use Rattle.std.specs.Prelude.{◌≡◌, ◌⊎◌, ℕ, List, ◌∷◌, map, Option, Some, None, option_copied, option_map, option_to_list}
use Rattle.std.specs.Prelude.{Bool, true, false, Result, Ok, Err}
use Rattle.pac_run.specs.WriteFault.{WriteFault}
use Rattle.pac_run_files.specs.declared.files.FileKind.TheVariants.{Any}
use Rattle.pac_run_files.specs.Files.{FindsFile, WantedFile, FirstUnread, Handling, WantedOutput, AllBegun, FirstUnbegun, IsLetGo}
use Rattle.pac_run_files.specs.Files.{drafted}
use Rattle.pac_run_files.specs.Read.{HasIfNamed, HasRead, PartUnread, played_files, watched_files, told_file, told_part}
use Rattle.pac_run_files.specs.declared.given.Given.{Given}
use Rattle.pac_run_files.specs.declared.parts.NamedFile.{NamedFile}
use Rattle.pac_run_options.specs.CommandLine.{AskedRun, AskedPlay, AskedDebug}
use Rattle.pac_run.specs.declared.fault.Output.{Output}
use Rattle.pac_run.specs.declared.fault.Output.TheVariants.{Frames, Wave, Listing, State}
use Rattle.pac_run.specs.declared.inputs.RunInputs.{RunInputs}
use Rattle.pac_run.specs.Outcome.{Outcome}
use Rattle.pac_run_command.specs.declared.failure.Failure.{Failure}
use Rattle.pac_run_command.specs.declared.failure.Failure.TheVariants.{Write, Memory}
use Rattle.pac_run_command.specs.declared.failure.Target.{Target}
use Rattle.pac_run_command.specs.declared.failure.Target.TheVariants.{Of}
use Rattle.pac_run_command.specs.declared.outputs.Outputs.{Outputs}
use Rattle.pac_run_command.specs.Endings.{Ending, FailureEnds, IsOfReading, RunEnds}
use Rattle.pac_run_command.specs.Programs.{Performing}

-- ---- what is run

-- a run's inputs are what was read
pub record IsInputs (asked : AskedRun) (given : Given) (parts : List NamedFile) (inputs : RunInputs) : Type 0 where
  pub source : option_copied inputs.source ≡ option_map (λ bytes. bytes.items) given.source
  pub manifest : inputs.manifest.now ≡ given.manifest.items
  pub parts_are : map told_part inputs.parts.now ≡ map told_file parts
  pub dip : inputs.dip ≡ asked.dip
  pub script : inputs.script.now ≡ given.script.items

-- a run that begins at power-on, and whose state goes nowhere
abbrev pub from_power_on : AskedRun → AskedPlay
from_power_on asked = record { run = asked; load = None; save = None }

-- ---- what is begun

-- an output of the film, which is a draft where the run's outputs are to take their places once all of them are whole
abbrev pub film_output : AskedRun → Output → (path : List ℕ) → WantedOutput Target
film_output asked which path = record { output = Of which; path = path; is_draft = asked.whole }

-- The outputs of a run, in the order in which they are begun. The state is the last one, where a file is named for it, and a draft in any
-- case.
abbrev pub state_output : Option (List ℕ) → List (WantedOutput Target)
state_output named = map (drafted (Of State)) (option_to_list named)

abbrev pub run_outputs : AskedPlay → List (WantedOutput Target)
run_outputs asked =
    film_output asked.run Frames asked.run.frames ∷ film_output asked.run Wave asked.run.wave
    ∷ film_output asked.run Listing asked.run.listing ∷ state_output asked.save

abbrev pub run_output_files : {File : Type 0} → Outputs File → List File
run_output_files outputs = outputs.frames ∷ outputs.wave ∷ outputs.listing ∷ option_to_list outputs.state

-- ---- what becomes of them

-- what a call for an output comes to, after a run that is done: where the system refuses it, that is a refused write of the output
abbrev pub by_call : (output : Target) → Outcome → Result Unit WriteFault → Result Outcome Failure
by_call output outcome (Ok done) = Ok outcome
by_call output outcome (Err fault) = Err (Write output fault.count)

pub record IsCalled {Disk : Type 0} (calls : Result Unit WriteFault → Disk → Type 0) (output : Target) (outcome : Outcome)
    (answer : Result Outcome Failure) (new : Disk) : Type 0 where
  pub done : Result Unit WriteFault
  pub called : calls done new
  pub answer_is : answer ≡ by_call output outcome done

-- An output is written out, by what the run came to so far: the system is to write out the draft of a run that is done. What was created
-- stays as it is, and so do all outputs from the first failure on.
abbrev pub writes_out_by : {Disk File : Type 0} → Handling Disk File → (is_draft : Bool) → Disk → Target → File → Outcome
    → (answer : Result Outcome Failure) → Disk → Type 0
writes_out_by handling true old output file outcome answer new = IsCalled (handling.syncs old file) output outcome answer new
writes_out_by handling false old output file outcome answer new = (answer ≡ Ok outcome) × (new ≡ old)

abbrev pub IsWrittenOut : {Disk File : Type 0} → Handling Disk File → Disk → WantedOutput Target → File
    → (ran answer : Result Outcome Failure) → Disk → Type 0
IsWrittenOut handling old wanted file (Ok outcome) answer new =
    writes_out_by handling wanted.is_draft old wanted.output file outcome answer new
IsWrittenOut handling old wanted file (Err failure) answer new = (answer ≡ Err failure) × (new ≡ old)

-- An output is settled, by what the run came to so far: the draft of a run that is done takes its place, and what was created is closed.
-- From the first failure on each is let go.
abbrev pub takes_place_by : {Disk File : Type 0} → Handling Disk File → (is_draft : Bool) → Disk → Target → (path : List ℕ) → File → Outcome
    → (answer : Result Outcome Failure) → Disk → Type 0
takes_place_by handling true old output path file outcome answer new = IsCalled (handling.publishes old path file) output outcome answer new
takes_place_by handling false old output path file outcome answer new = (answer ≡ Ok outcome) × handling.closes old file new

abbrev pub IsSettled : {Disk File : Type 0} → Handling Disk File → Disk → WantedOutput Target → File
    → (ran answer : Result Outcome Failure) → Disk → Type 0
IsSettled handling old wanted file (Ok outcome) answer new =
    takes_place_by handling wanted.is_draft old wanted.output wanted.path file outcome answer new
IsSettled handling old wanted file (Err failure) answer new = (answer ≡ Err failure) × IsLetGo handling old wanted file new

-- this is done with each output in turn, as long as there are outputs with their files
abbrev pub Does : (Disk File : Type 0) → Type 1
Does Disk File = Disk → WantedOutput Target → File → (ran answer : Result Outcome Failure) → Disk → Type 0

abbrev pub InTurn : {Disk File : Type 0} → Does Disk File → Disk → List (WantedOutput Target) → List File
    → (ran answer : Result Outcome Failure) → Disk → Type 0
InTurn {Disk} does old (wanted ∷ more) (file ∷ files) ran answer new =
    (between : Disk) × (so_far : Result Outcome Failure) × does old wanted file ran so_far between
    × InTurn does between more files so_far answer new
InTurn does old wanted files ran answer new = (answer ≡ ran) × (new ≡ old)

-- all are written out, in turn, before the first takes its place; then all are settled
pub record Settles {Disk File : Type 0} (handling : Handling Disk File) (wanted : List (WantedOutput Target)) (files : List File)
    (old : Disk)
    (ran answer : Result Outcome Failure) (new : Disk) : Type 0 where
  pub so_far : Result Outcome Failure
  pub written : Disk
  pub all_written : InTurn (IsWrittenOut handling) old wanted files ran so_far written
  pub all_settled : InTurn (IsSettled handling) written wanted files so_far answer new

-- ---- a run

-- the outputs were begun, then the run was done, and then it was settled what becomes of them; no more is written to them
pub record IsPerformed {Disk File : Type 0} (handling : Handling Disk File) (performs : Performing File) (asked : AskedPlay) (given : Given)
    (parts : List NamedFile) (old : Disk) (answer : Result Outcome Failure) (new : Disk) : Type 0 where
  pub inputs : RunInputs
  pub inputs_are : IsInputs asked.run given parts inputs
  pub created : Outputs File
  pub during : Disk
  pub all_begun : AllBegun handling old (run_outputs asked) (run_output_files created) during
  pub left : Outputs File
  pub ran : Result Outcome Failure
  pub performed : performs ran inputs created left
  pub settled : Settles handling (run_outputs asked) (run_output_files left) during ran answer new

-- an output couldn't be begun
pub record IsRunUncreated {Disk File : Type 0} (handling : Handling Disk File) (asked : AskedPlay) (old : Disk)
    (answer : Result Outcome Failure) (new : Disk) : Type 0 where
  pub output : Target
  pub answer_is : answer ≡ Err (Write output 0)
  pub first : FirstUnbegun handling old (run_outputs asked) output new

-- memory ran out before any output was created
pub record IsUnmade {Disk : Type 0} (old : Disk) (answer : Result Outcome Failure) (new : Disk) : Type 0 where
  pub answer_is : answer ≡ Err Memory
  pub unchanged : new ≡ old

-- What was read is run: the run is done over all its outputs; or it isn't begun, and no output gets a byte
abbrev pub RecordsRun : {Disk File : Type 0} → Handling Disk File → Performing File → (silent : Type 0) → AskedPlay → Given
    → List NamedFile → Disk → Result Outcome Failure → Disk → Type 0
RecordsRun handling performs silent asked given parts old answer new =
    IsPerformed handling performs asked given parts old answer new
    ⊎ (silent × (IsRunUncreated handling asked old answer new ⊎ IsUnmade old answer new))

-- ---- the whole

-- a file couldn't be read, or memory ran out while files were: this is told, nothing is created, and no output gets a byte
pub record IsUnbegun {Disk C : Type 0} (unread : List ℕ → Type 0) (silent : Type 0) (ending : Ending C) (old new : Disk) : Type 0 where
  pub failure : Failure
  pub reason : IsOfReading unread failure
  pub fails : FailureEnds ending failure
  pub unchanged : new ≡ old
  pub is_silent : silent

-- all was read, and it ends by the answer of the run
pub record IsRun {Disk File C : Type 0} (finds : FindsFile) (handling : Handling Disk File) (performs : Performing File) (silent : Type 0)
    (ending : Ending C) (asked : AskedPlay) (old new : Disk) : Type 0 where
  pub given : Given
  pub parts : List NamedFile
  pub read : HasRead finds asked.run given parts
  pub answer : Result Outcome Failure
  pub records : RecordsRun handling performs silent asked given parts old answer new
  pub ends : RunEnds ending answer

-- what was read last of the files that the command line names, and a fact of it
pub record WithLast {A : Type 0} (has fact : A → Type 0) : Type 0 where
  pub last : A
  pub is_had : has last
  pub holds : fact last

-- The files that the command line names are read, then the parts of the set, and then it is run with what the last of the former has.
abbrev pub ReadsAndRuns : {A Disk File C : Type 0} → FindsFile → Handling Disk File → (named : List WantedFile) → (has : A → Type 0)
    → (performs : A → Performing File) → (silent : Type 0) → Ending C → AskedPlay → Disk → Disk → Type 0
ReadsAndRuns finds handling named has performs silent ending asked old new =
    IsUnbegun (λ name. FirstUnread finds named name ⊎ WithLast has (λ last. PartUnread finds asked.run name)) silent ending old new
    ⊎ WithLast has (λ last. IsRun finds handling (performs last) silent ending asked old new)

-- `run`: the state is read last, where a file of it is named
abbrev pub PlaysRun : {Disk File C : Type 0} → FindsFile → Handling Disk File → (performs : (from : Option (List ℕ)) → Performing File)
    → (silent : Type 0) → Ending C → AskedPlay → Disk → Disk → Type 0
PlaysRun finds handling performs silent ending asked =
    ReadsAndRuns finds handling (played_files asked) (HasIfNamed finds asked.load)
    (λ state. performs (option_map (λ bytes. bytes.items) state)) silent ending asked

-- `debug`: the commands are
abbrev pub WatchesRun : {Disk File C : Type 0} → FindsFile → Handling Disk File → (performs : (commands : List ℕ) → Performing File)
    → (silent : Type 0) → Ending C → AskedDebug → Disk → Disk → Type 0
WatchesRun finds handling performs silent ending asked =
    ReadsAndRuns finds handling (watched_files asked) (λ commands. finds.bytes Any asked.commands (Some commands)) performs silent ending
    (from_power_on asked.run)
