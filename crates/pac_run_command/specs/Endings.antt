-- Believed: how the program's work ends: the exit status that is answered, and what is told on the console.
use Rattle.std.specs.Prelude.{◌≡◌, ⊤, ℕ, List, Result, Ok, Err}
use Rattle.clap.specs.declared.error.kind.ErrorKind.{ErrorKind}
use Rattle.clap.specs.declared.error.kind.ErrorKind.TheVariants as kind
use Rattle.pac_run.specs.WriteFault.{WriteFault}
use Rattle.pac_run.specs.declared.fault.Output.TheVariants.{Text}
use Rattle.pac_run.specs.Outcome.{Outcome}
use Rattle.pac_run_command.specs.declared.failure.Failure.{Failure}
use Rattle.pac_run_command.specs.declared.failure.Failure.TheVariants.{Read, Write, Memory}
use Rattle.pac_run_command.specs.declared.failure.Target.TheVariants.{Of}
use Rattle.pac_run_command.specs.Failures.{message, failure_status, end_status}

-- The status, and the console as it was and as it is left; its two relations are those of the trait `Teller`.
pub record Ending (C : Type 0) : Type 1 where
  pub tells : C → (line : List ℕ) → C → Type 0
  pub explains : C → ErrorKind → (written : Result Unit WriteFault) → C → Type 0
  pub old : C
  pub new : C
  pub status : ℕ

-- nothing is told, and this is the status
abbrev pub IsQuiet : {C : Type 0} → Ending C → ℕ → Type 0
IsQuiet ending answer = (ending.status ≡ answer) × (ending.new ≡ ending.old)

-- the line of a failure is told, once and nothing else, and the status is the failure's
abbrev pub FailureEnds : {C : Type 0} → Ending C → Failure → Type 0
FailureEnds ending failure = (ending.status ≡ failure_status failure) × ending.tells ending.old (message failure) ending.new

-- work that was done or failed
abbrev pub WorkEnds : {C : Type 0} → Ending C → Result Unit Failure → Type 0
WorkEnds ending (Ok done) = IsQuiet ending 0
WorkEnds ending (Err failure) = FailureEnds ending failure

-- a run that ended or failed
abbrev pub RunEnds : {C : Type 0} → Ending C → Result Outcome Failure → Type 0
RunEnds ending (Ok outcome) = IsQuiet ending (end_status outcome.stop)
RunEnds ending (Err failure) = FailureEnds ending failure

-- help or the version, by whether it was written; where it wasn't, that is told as a failure, the text's
abbrev pub HelpEnds : {C : Type 0} → Ending C → (written : Result Unit WriteFault) → Type 0
HelpEnds ending (Ok done) = IsQuiet ending 0
HelpEnds ending (Err fault) = FailureEnds ending (Write (Of Text) fault.count)

-- what follows on what `clap` has to say of words; of a fault nothing does, be it written or not
abbrev pub TextEnds : {C : Type 0} → Ending C → ErrorKind → (written : Result Unit WriteFault) → Type 0
TextEnds ending kind.DisplayHelp written = HelpEnds ending written
TextEnds ending kind.DisplayVersion written = HelpEnds ending written
TextEnds ending fault written = IsQuiet ending 2

-- what `clap` has to say of this kind of words is told, once, and then it ends so
pub record IsExplained {C : Type 0} (ending : Ending C) (told : ErrorKind) : Type 0 where
  pub written : Result Unit WriteFault
  pub between : C
  pub explained : ending.explains ending.old told written between
  pub ends : TextEnds (record ending { old = between }) told written

-- words that are no command line: this is told; want of memory is a failure
abbrev pub WordsEnd : {C : Type 0} → Ending C → ErrorKind → Type 0
WordsEnd ending kind.OutOfMemory = FailureEnds ending Memory
WordsEnd ending told = IsExplained ending told

-- a failure of reading: a file of such a name can't be read, or memory ran out
abbrev pub IsOfReading : (unread : List ℕ → Type 0) → Failure → Type 0
IsOfReading unread (Read name) = unread name.now
IsOfReading unread Memory = ⊤
IsOfReading unread other = ⊥
