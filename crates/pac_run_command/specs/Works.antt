-- Believed: what the program does for the words of a command line, by what they ask for: from what its files have to what
-- its outputs get, what is told on the console, and the exit status.
use Rattle.std.specs.Prelude.{◌≡◌, ◌⊎◌, ⊤, ℕ, List, [], Option, Some, Result}
use Rattle.clap.specs.Words.{IsAmong, Kinds}
use Rattle.clap.specs.declared.error.kind.ErrorKind.{ErrorKind}
use Rattle.clap.specs.declared.error.kind.ErrorKind.TheVariants.{OutOfMemory}
use Rattle.pac_run_options.specs.CommandLine.{Asked, asm, run, debug, dis}
use Rattle.pac_run.specs.declared.fault.Output.{Output}
use Rattle.pac_run.specs.declared.fault.Output.TheVariants.{Report, Text}
use Rattle.pac_run.specs.Run.{Writing}
use Rattle.pac_run_command.specs.declared.failure.Failure.{Failure}
use Rattle.pac_run_command.specs.declared.failure.Failure.TheVariants.{Write}
use Rattle.pac_run_command.specs.declared.failure.Target.TheVariants.{Of}
use Rattle.pac_run_command.specs.Endings.{Ending, FailureEnds, WordsEnd, WorkEnds}
use Rattle.pac_run_files.specs.Files.{FindsFile, Handling}
use Rattle.pac_run_command.specs.Making.{Makes, TellsDisassembly}
use Rattle.pac_run_command.specs.Outputs.{PlaysRun, WatchesRun}
use Rattle.pac_run_command.specs.Programs.{Assembling, Performing, assembling, performing, watching}
use Rattle.pac_run_command.specs.Texts.{WritesDisassembly}

-- The files, and what each piece of work leaves of the outputs by its answer. Report and text are standard output; `silent` says
-- that the report got nothing, and `untold` that the text did.
pub record Desk (Disk File C : Type 0) : Type 1 where
  pub finds : FindsFile
  pub handling : Handling Disk File
  pub assembles : Assembling File
  pub performs : (from : Option (List ℕ)) → Performing File
  pub watches : (commands : List ℕ) → Performing File
  pub disassembles : (bytes : List ℕ) → Result Unit Failure → Type 0
  pub silent : Type 0
  pub untold : Type 0
  pub ending : Ending C

-- that of files whose writers say this of themselves, with report and text before and after the work
abbrev pub desk_of : {Disk File R T C : Type 0} → FindsFile → Handling Disk File → (took : File → List ℕ → File → Type 0)
    → (refused : File → File → Type 0) → (report : Writing R) → (text : Writing T) → Ending C → Desk Disk File C
desk_of finds handling took refused report text ending = record {
  finds = finds;
  handling = handling;
  assembles = assembling took refused;
  performs = performing took refused report;
  watches = watching took refused report text;
  disassembles = λ bytes answer. WritesDisassembly bytes text answer;
  silent = report.new ≡ report.old;
  untold = text.new ≡ text.old;
  ending = ending;
}

-- work that is done or fails, and how it ends
pub record FinishesWork {C : Type 0} (work : Result Unit Failure → Type 0) (ending : Ending C) : Type 0 where
  pub answer : Result Unit Failure
  pub works : work answer
  pub ends : WorkEnds ending answer

abbrev pub DoesWork : {Disk File C : Type 0} → Desk Disk File C → Asked → (old new : Disk) → Type 0
DoesWork desk (asm asked) old new =
    FinishesWork (λ answer. Makes desk.finds desk.handling desk.assembles asked old answer new) desk.ending × desk.silent × desk.untold
DoesWork desk (run asked) old new = PlaysRun desk.finds desk.handling desk.performs desk.silent desk.ending asked old new × desk.untold
DoesWork desk (debug asked) old new = WatchesRun desk.finds desk.handling desk.watches (desk.silent × desk.untold) desk.ending asked old new
DoesWork desk (dis name) old new =
    FinishesWork (λ answer. TellsDisassembly desk.finds desk.disassembles desk.untold name answer) desk.ending × (new ≡ old) × desk.silent

-- words that ask for this, without a fault, and what is done for them
pub record IsServed (does : Asked → Type 0) (kinds : Kinds) (request : Option Asked) : Type 0 where
  pub faultless : kinds ≡ []
  pub asked : Asked
  pub request_is : request ≡ Some asked
  pub is_done : does asked

-- words with a fault of one of these kinds, or memory ran out while they were read: this is told, no file is created and no
-- output gets a byte
pub record AreWordsRefused {Disk File C : Type 0} (desk : Desk Disk File C) (kinds : Kinds) (old new : Disk) : Type 0 where
  pub kind_told : ErrorKind
  pub is_one : (kind_told ≡ OutOfMemory) ⊎ IsAmong kind_told kinds
  pub ends : WordsEnd desk.ending kind_told
  pub unchanged : new ≡ old
  pub is_silent : desk.silent
  pub is_untold : desk.untold

-- by the kinds of fault that the words may have, and what they ask for
abbrev pub Works : {Disk File C : Type 0} → Desk Disk File C → Kinds → Option Asked → (old new : Disk) → Type 0
Works desk kinds request old new = IsServed (λ asked. DoesWork desk asked old new) kinds request ⊎ AreWordsRefused desk kinds old new

-- ---- where a file that is created might take the place of a standard stream

-- work that writes to standard output isn't begun: this output is told as refused after no byte, and no file is created
abbrev pub IsHeldBack : {Disk C : Type 0} → Ending C → Output → (old new : Disk) → Type 0
IsHeldBack ending output old new = FailureEnds ending (Write (Of output) 0) × (new ≡ old)

abbrev pub DoesUnkept : {Disk File C : Type 0} → Desk Disk File C → Asked → (old new : Disk) → Type 0
DoesUnkept desk (asm asked) old new = DoesWork desk (asm asked) old new
DoesUnkept desk (run asked) old new = IsHeldBack desk.ending Report old new
DoesUnkept desk (debug asked) old new = IsHeldBack desk.ending Report old new
DoesUnkept desk (dis name) old new = IsHeldBack desk.ending Text old new

-- no output but files: nothing is run or disassembled, and there is no report or text that could get anything
abbrev pub without_output : {Disk File C : Type 0} → FindsFile → Handling Disk File → Assembling File → Ending C → Desk Disk File C
without_output finds handling assembles ending = record {
  finds = finds;
  handling = handling;
  assembles = assembles;
  performs = λ from answer inputs created left. ⊥;
  watches = λ commands answer inputs created left. ⊥;
  disassembles = λ bytes answer. ⊥;
  silent = ⊤;
  untold = ⊤;
  ending = ending;
}

-- what the program does where a file that is created might take the place of a standard stream
abbrev pub WorksUnkept : {Disk File C : Type 0} → Desk Disk File C → Kinds → Option Asked → (old new : Disk) → Type 0
WorksUnkept desk kinds request old new =
    IsServed (λ asked. DoesUnkept desk asked old new) kinds request ⊎ AreWordsRefused desk kinds old new
