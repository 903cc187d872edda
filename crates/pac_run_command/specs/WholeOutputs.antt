-- Law: an output that takes its place is whole at each moment: its file has what it had before the run, or all that the run gave it; which
-- is proved on a public function of the crate.
use Rattle.std.specs.Prelude.{◌≡◌, ◌⊎◌, ⊤, ℕ, List, [], ◌∷◌, ◌++◌, Option, Some, Result, Ok, Err}
use Rattle.pac_run_files.specs.Files.{Handling, WantedOutput, AllBegun, drafted}
use Rattle.pac_run_files.specs.declared.given.Given.{Given}
use Rattle.pac_run_files.specs.declared.parts.NamedFile.{NamedFile}
use Rattle.pac_run_options.specs.CommandLine.{AskedRun, AskedPlay}
use Rattle.pac_run.specs.Plan.{Plan, plan_of}
use Rattle.pac_run.specs.Start.{IsFirstBoard}
use Rattle.pac_run.specs.Resumes.{state_text}
use Rattle.pac_run.specs.Run.{Writing, writing}
use Rattle.pac_run.specs.Outcome.{Outcome}
use Rattle.pac_run.specs.State.{BoardValue}
use Rattle.pac_run.specs.WriteFault.{WriteFault}
use Rattle.pac_run.specs.declared.fault.Output.TheVariants.{State}
use Rattle.pac_run.specs.declared.inputs.RunInputs.{RunInputs}
use Rattle.pac_run_command.specs.declared.failure.Failure.{Failure}
use Rattle.pac_run_command.specs.declared.failure.Target.{Target}
use Rattle.pac_run_command.specs.declared.failure.Target.TheVariants.{Of}
use Rattle.pac_run_command.specs.Outputs.{Does, InTurn, IsPerformed, IsRunUncreated, IsSettled, IsWrittenOut, from_power_on}
use Rattle.pac_run_command.specs.Outputs.{run_output_files, run_outputs}
use Rattle.pac_run_command.specs.Programs.{Performing, performing, watching}

-- ---- what is asked of the files

-- Of one path: `named` is what its file has, if there is one, and `text_of` what a draft has. Nothing but a draft that takes its place
-- changes the file of the path, and then it is the whole draft.
pub record ReplacesWhole {Disk File : Type 0} (handling : Handling Disk File) (took : File → List ℕ → File → Type 0) (path : List ℕ)
    (named : Disk → Option (List ℕ)) (text_of : File → List ℕ) : Type 0 where
  pub creates : (old new : Disk) (other : List ℕ) (file : Option File) → (other ≡ path → ⊥) → handling.creates old other file new
      → named new ≡ named old
  pub closes : (old new : Disk) (file : File) → handling.closes old file new → named new ≡ named old
  pub drafts : (old new : Disk) (other : List ℕ) (draft : Option File) → handling.drafts old other draft new → named new ≡ named old
  pub empty : (old new : Disk) (draft : File) → handling.drafts old path (Some draft) new → text_of draft ≡ []
  pub grows : (old new : File) (bytes : List ℕ) → took old bytes new → text_of new ≡ text_of old ++ bytes
  pub syncs : (old new : Disk) (draft : File) (done : Result Unit WriteFault) → handling.syncs old draft done new → named new ≡ named old
  pub publishes : (old new : Disk) (draft : File) (done : Unit) → handling.publishes old path draft (Ok done) new
      → named new ≡ Some (text_of draft)
  pub stays : (old new : Disk) (draft : File) (fault : WriteFault) → handling.publishes old path draft (Err fault) new
      → named new ≡ named old
  pub elsewhere : (old new : Disk) (other : List ℕ) (draft : File) (done : Result Unit WriteFault) → (other ≡ path → ⊥)
      → handling.publishes old other draft done new → named new ≡ named old
  pub discards : (old new : Disk) (other : List ℕ) (draft : File) → handling.discards old other draft new → named new ≡ named old

-- none of these outputs has the path
abbrev pub AllElsewhere : (path : List ℕ) → List (WantedOutput Target) → Type 0
AllElsewhere path [] = ⊤
AllElsewhere path (other ∷ more) = (other.path ≡ path → ⊥) × AllElsewhere path more

-- an output is one of these, as a draft, and no other has its path
abbrev pub HasPathAlone : (output : Target) → (path : List ℕ) → List (WantedOutput Target) → Type 0
HasPathAlone output path [] = ⊥
HasPathAlone output path (other ∷ more) =
    ((other ≡ drafted output path) × AllElsewhere path more) ⊎ ((other.path ≡ path → ⊥) × HasPathAlone output path more)

-- ---- what is so of the path's file

-- this holds after each output that is begun
abbrev pub WhileBegun : {Disk File : Type 0} (holds : Disk → Type 0) (handling : Handling Disk File) (old : Disk)
    (wanted : List (WantedOutput Target)) (files : List File) (new : Disk) → AllBegun handling old wanted files new → Type 0
WhileBegun holds handling old (one ∷ more) (file ∷ files) new begun =
    holds begun.0 × WhileBegun holds handling begun.0 more files new begun.2
WhileBegun holds handling old wanted files new begun = ⊤

-- and after what is done with each of them in turn
abbrev pub WhileInTurn : {Disk File : Type 0} (holds : Disk → Type 0) (does : Does Disk File) (old : Disk)
    (wanted : List (WantedOutput Target)) (files : List File) (ran answer : Result Outcome Failure) (new : Disk)
    → InTurn does old wanted files ran answer new → Type 0
WhileInTurn holds does old (one ∷ more) (file ∷ files) ran answer new turns =
    holds turns.0 × WhileInTurn holds does turns.0 more files turns.1 answer new turns.3
WhileInTurn holds does old wanted files ran answer new turns = ⊤

-- one of the files that the run left is that of the path's output, and this is its text
abbrev pub HasNewText : {File : Type 0} → (text_of : File → List ℕ) → (path : List ℕ) → List (WantedOutput Target) → List File
    → Option (List ℕ) → Type 0
HasNewText text_of path (wanted ∷ more) (file ∷ files) found =
    ((wanted.path ≡ path) × (found ≡ Some (text_of file))) ⊎ ((wanted.path ≡ path → ⊥) × HasNewText text_of path more files found)
HasNewText text_of path wanted files found = ⊥

-- there is an output after that of the path
abbrev pub IsSome : List (WantedOutput Target) → Type 0
IsSome [] = ⊥
IsSome (wanted ∷ more) = ⊤

abbrev pub HasLater : (path : List ℕ) → List (WantedOutput Target) → Type 0
HasLater path [] = ⊥
HasLater path (wanted ∷ more) = ((wanted.path ≡ path) × IsSome more) ⊎ HasLater path more

-- What the file has at the end, by the answer: of a run that was done, the whole text. Of one that failed, what it had; or the whole text,
-- where an output after it couldn't take its place.
abbrev pub EndsWhole : (same whole later : Type 0) → Result Outcome Failure → Type 0
EndsWhole same whole later (Ok outcome) = whole
EndsWhole same whole later (Err failure) = same ⊎ (whole × later)

-- A run that was done or failed. As long as outputs are begun, are written to, and are written out, the file has what it had; and from then
-- on this or the whole text, at each moment.
pub record StaysWhole {Disk File : Type 0} (handling : Handling Disk File) (performs : Performing File) (path : List ℕ)
    (named : Disk → Option (List ℕ)) (text_of : File → List ℕ) (asked : AskedPlay) (given : Given) (parts : List NamedFile) (old : Disk)
    (answer : Result Outcome Failure) (new : Disk) (performed : IsPerformed handling performs asked given parts old answer new)
    : Type 0 where
  pub begun : WhileBegun (λ disk. named disk ≡ named old) handling old (run_outputs asked) (run_output_files performed.created)
      performed.during performed.all_begun
  pub written : WhileInTurn (λ disk. named disk ≡ named old) (IsWrittenOut handling) performed.during (run_outputs asked)
      (run_output_files performed.left) performed.ran performed.settled.so_far performed.settled.written performed.settled.all_written
  pub settled : WhileInTurn
      (λ disk. (named disk ≡ named old) ⊎ HasNewText text_of path (run_outputs asked) (run_output_files performed.left) (named disk))
      (IsSettled handling) performed.settled.written (run_outputs asked) (run_output_files performed.left) performed.settled.so_far
      answer new
      performed.settled.all_settled
  pub ends : EndsWhole (named new ≡ named old) (HasNewText text_of path (run_outputs asked) (run_output_files performed.left) (named new))
      (HasLater path (run_outputs asked)) answer

-- Over any files that replace whole, of an output of a run or of a session that takes its place. Where an output couldn't be begun the file
-- has what it had.
pub record OutputsAreWhole {Disk File R T : Type 0} (handling : Handling Disk File) (took : File → List ℕ → File → Type 0)
    (refused : File → File → Type 0) (report : Writing R) (text : Writing T) (named : Disk → Option (List ℕ)) (text_of : File → List ℕ)
    (output : Target) (path : List ℕ) : Type 0 where
  pub of_runs : (from : Option (List ℕ)) (asked : AskedPlay) (given : Given) (parts : List NamedFile) (old : Disk)
      (answer : Result Outcome Failure) (new : Disk) → HasPathAlone output path (run_outputs asked)
      → (performed : IsPerformed handling (performing took refused report from) asked given parts old answer new)
      → StaysWhole handling (performing took refused report from) path named text_of asked given parts old answer new performed
  pub of_sessions : (commands : List ℕ) (asked : AskedRun) (given : Given) (parts : List NamedFile) (old : Disk)
      (answer : Result Outcome Failure) (new : Disk) → HasPathAlone output path (run_outputs (from_power_on asked))
      → (performed : IsPerformed handling (watching took refused report text commands) (from_power_on asked) given parts old answer new)
      → StaysWhole handling (watching took refused report text commands) path named text_of (from_power_on asked) given parts old answer new
      performed
  pub unbegun : (asked : AskedPlay) (old : Disk) (answer : Result Outcome Failure) (new : Disk)
      → HasPathAlone output path (run_outputs asked) → IsRunUncreated handling asked old answer new → named new ≡ named old

abbrev pub AllOutputsAreWhole : {Disk File R T : Type 0} → Handling Disk File → (took : File → List ℕ → File → Type 0)
    → (refused : File → File → Type 0) → (wrote : R → List ℕ → R → Type 0) → (balked : R → R → Type 0)
    → (said : T → List ℕ → T → Type 0) → (fell_silent : T → T → Type 0) → Type 0
AllOutputsAreWhole {Disk} {File} {R} {T} handling took refused wrote balked said fell_silent =
    (report report_left : R) (text text_left : T) (named : Disk → Option (List ℕ)) (text_of : File → List ℕ) (output : Target)
    (path : List ℕ) → ReplacesWhole handling took path named text_of
    → OutputsAreWhole handling took refused (writing wrote balked report report_left) (writing said fell_silent text text_left) named
    text_of
    output path

-- ---- the state

-- the file has the state of the run's end
pub record HasNewState (inputs : RunInputs) (from : Option (List ℕ)) (found : Option (List ℕ)) : Type 0 where
  pub plan : Plan
  pub plan_is : plan_of inputs ≡ Ok plan
  pub board : BoardValue
  pub is_first : IsFirstBoard plan.set inputs.dip plan.script from board
  pub found_is : found ≡ Some (state_text plan inputs.dip from board)

-- a run that saves its state under a path
abbrev pub saving : AskedRun → (load : Option (List ℕ)) → (path : List ℕ) → AskedPlay
saving asked load path = record { run = asked; load = load; save = Some path }

-- the file has the new state at the end of a run that was done, and what it had at the end of one that failed
abbrev pub EndsInState : RunInputs → (from : Option (List ℕ)) → (before after : Option (List ℕ)) → Result Outcome Failure → Type 0
EndsInState inputs from before after (Ok outcome) = HasNewState inputs from after
EndsInState inputs from before after (Err failure) = after ≡ before

-- the state is the last output: each run that fails leaves its file as it was
abbrev pub StatesAreWhole : {Disk File R : Type 0} → Handling Disk File → (took : File → List ℕ → File → Type 0)
    → (refused : File → File → Type 0) → (wrote : R → List ℕ → R → Type 0) → (balked : R → R → Type 0) → Type 0
StatesAreWhole {Disk} {File} {R} handling took refused wrote balked =
    (named : Disk → Option (List ℕ)) (text_of : File → List ℕ) (asked : AskedRun) (load from : Option (List ℕ)) (path : List ℕ)
    → ReplacesWhole handling took path named text_of → HasPathAlone (Of State) path (run_outputs (saving asked load path))
    → (report report_left : R) (given : Given) (parts : List NamedFile) (old : Disk) (answer : Result Outcome Failure) (new : Disk)
    → (performed : IsPerformed handling (performing took refused (writing wrote balked report report_left) from)
    (saving asked load path) given parts old answer new) → EndsInState performed.inputs from (named old) (named new) answer
