-- Believed: what is told where the program can't do its work: the line that goes to standard error, and the exit status.
use Rattle.std.specs.Prelude.{◌≡◌, ◌⊎◌, ℕ, List, ◌++◌, Option, Some, None, codes}
use Rattle.std.specs.Fmt.{decimal}
use Rattle.clap.specs.Words.{IsAmong, Kinds}
use Rattle.clap.specs.declared.error.kind.ErrorKind.{ErrorKind}
use Rattle.clap.specs.declared.error.kind.ErrorKind.TheVariants as kind
use Rattle.pac_asm.specs.Codes as asm
use Rattle.pac_run.specs.Stop.{Stop}
use Rattle.pac_run.specs.ScriptCodes as inputs
use Rattle.pac_run.specs.SetCodes as manifest
use Rattle.pac_run.specs.StateCodes as states
use Rattle.pac_run_files.specs.Names.{told_name}
use Rattle.pac_run.specs.Names.{output_name}
use Rattle.pac_run.specs.declared.fault.RunFault.{RunFault}
use Rattle.pac_run.specs.declared.fault.RunFault.TheVariants as run
use Rattle.pac_run_command.specs.declared.failure.Failure.{Failure}
use Rattle.pac_run_command.specs.declared.failure.Failure.TheVariants.{Read, Source, Set, Script, State, Extent, Write, Memory, Words}
use Rattle.pac_run_command.specs.declared.failure.Target.{Target}
use Rattle.pac_run_command.specs.declared.failure.Target.TheVariants.{Of, Rom}

-- the name of an output
abbrev pub target_name : Target → List ℕ
target_name (Of output) = output_name output
target_name Rom = codes "rom"

-- a file of this name can't be read
abbrev pub read_fault_text : (name : List ℕ) → List ℕ
read_fault_text name = codes "read fault " ++ told_name name

-- the line of a failure, without its line feed
abbrev pub message : Failure → List ℕ
message (Read name) = read_fault_text name.now
message (Source fault) = codes "refused " ++ asm.asm_fault_text fault
message (Set fault) = codes "refused " ++ manifest.set_fault_text fault
message (Script fault) = codes "refused " ++ inputs.script_fault_text fault
message (State fault) = codes "refused " ++ states.state_fault_text fault
message Extent = codes "refused X1"
message (Write output count) = codes "write fault " ++ target_name output ++ codes " after " ++ decimal count ++ codes " bytes"
message Memory = codes "out of memory"
message Words = codes "error: a word of the command line isn't UTF-8"

-- the exit status of a failure: 1 refused input, 2 no command line, 3 read or write fault, 4 memory
abbrev pub failure_status : Failure → ℕ
failure_status (Read name) = 3
failure_status (Source fault) = 1
failure_status (Set fault) = 1
failure_status (Script fault) = 1
failure_status (State fault) = 1
failure_status Extent = 1
failure_status (Write output count) = 3
failure_status Memory = 4
failure_status Words = 2

-- the exit status of a run that was done: 5 where a stop ended it
abbrev pub end_status : Option Stop → ℕ
end_status None = 0
end_status (Some stop) = 5

-- the greatest exit status
abbrev pub most_status : ℕ
most_status = 5

-- the failure that a fault of a run is
abbrev pub failure_of : RunFault → Failure
failure_of (run.Source fault) = Source fault
failure_of (run.Set fault) = Set fault
failure_of (run.Script fault) = Script fault
failure_of (run.State fault) = State fault
failure_of (run.Write output count) = Write (Of output) count
failure_of run.NoMemory = Memory

-- the exit status of help or the version: 0 where it was written, else 3
abbrev pub IsHelpStatus : ℕ → Type 0
IsHelpStatus answer = (answer ≡ 0) ⊎ (answer ≡ 3)

-- the exit status of words that are no command line: that of help where they ask for it, else 2, but want of memory is 4
abbrev pub IsLineStatus : ErrorKind → ℕ → Type 0
IsLineStatus kind.DisplayHelp answer = IsHelpStatus answer
IsLineStatus kind.DisplayVersion answer = IsHelpStatus answer
IsLineStatus kind.OutOfMemory answer = answer ≡ 4
IsLineStatus fault answer = answer ≡ 2

-- the status is that of one of these kinds of words, or memory ran out
pub record IsWordsStatus (kinds : Kinds) (answer : ℕ) : Type 0 where
  pub kind_told : ErrorKind
  pub is_one : (kind_told ≡ kind.OutOfMemory) ⊎ IsAmong kind_told kinds
  pub answer_is : IsLineStatus kind_told answer
