-- Believed: what the program does on a machine. Of its files, its standard output and its console a contract knows what their
-- relations say. What they were before the work and are after it nothing tells, so it is said that there are such.
use Rattle.std.specs.Prelude.{◌⊎◌, ℕ, List, Option, Result}
use Rattle.clap.specs.Words.{Kinds}
use Rattle.clap.specs.declared.error.kind.ErrorKind.{ErrorKind}
use Rattle.pac_run_files.specs.Files.{FindsFile, Handling}
use Rattle.pac_run_options.specs.CommandLine.{Asked, faults_of, request_of}
use Rattle.pac_run.specs.WriteFault.{WriteFault}
use Rattle.pac_run.specs.Run.{Writing, writing}
use Rattle.pac_run_command.specs.declared.failure.Failure.TheVariants.{Memory, Words}
use Rattle.pac_run_command.specs.Endings.{Ending, FailureEnds}
use Rattle.pac_run_command.specs.Programs.{assembling}
use Rattle.pac_run_command.specs.Works.{Works, WorksUnkept, desk_of, without_output}

-- what a machine's files and their writers say by relations, and what a writer of standard output and the console say
pub record Machine (Disk File Stream Console : Type 0) : Type 1 where
  pub finds : Disk → FindsFile
  pub handling : Handling Disk File
  pub file_took : File → List ℕ → File → Type 0
  pub file_refused : File → File → Type 0
  pub stream_took : Stream → List ℕ → Stream → Type 0
  pub stream_refused : Stream → Stream → Type 0
  pub tells : Console → (line : List ℕ) → Console → Type 0
  pub explains : Console → ErrorKind → (written : Result Unit WriteFault) → Console → Type 0

-- a writer of standard output before and after
abbrev pub stream_on : {Disk File Stream Console : Type 0} → Machine Disk File Stream Console → (old new : Stream) → Writing Stream
stream_on machine old new = writing machine.stream_took machine.stream_refused old new

-- how the work ends
abbrev pub ending_on : {Disk File Stream Console : Type 0} → Machine Disk File Stream Console → (old new : Console) → (status : ℕ)
    → Ending Console
ending_on machine old new status = record { tells = machine.tells; explains = machine.explains; old = old; new = new; status = status }

-- for words with these faults or that request it does what the definition of the work says, and answers this status
pub record WorksOn {Disk File Stream Console : Type 0} (machine : Machine Disk File Stream Console) (kinds : Kinds)
    (request : Option Asked) (status : ℕ) : Type 0 where
  pub disk : Disk
  pub disk_left : Disk
  pub report : Stream
  pub report_left : Stream
  pub text : Stream
  pub text_left : Stream
  pub console : Console
  pub console_left : Console
  pub works : Works (desk_of (machine.finds disk) machine.handling machine.file_took machine.file_refused
      (stream_on machine report report_left) (stream_on machine text text_left) (ending_on machine console console_left status))
      kinds request disk disk_left

-- what the program does for such words where a file that is created might take the place of a standard stream
pub record WorksUnkeptOn {Disk File Stream Console : Type 0} (machine : Machine Disk File Stream Console) (kinds : Kinds)
    (request : Option Asked) (status : ℕ) : Type 0 where
  pub disk : Disk
  pub disk_left : Disk
  pub console : Console
  pub console_left : Console
  pub works : WorksUnkept (without_output (machine.finds disk) machine.handling (assembling machine.file_took machine.file_refused)
      (ending_on machine console console_left status)) kinds request disk disk_left

-- the words of a command line: the places of the standard streams were kept from files, or they couldn't be
abbrev pub Hears : {Disk File Stream Console : Type 0} → Machine Disk File Stream Console → (words : List (List ℕ)) → (status : ℕ) → Type 0
Hears machine words status =
    WorksOn machine (faults_of words) (request_of words) status
    ⊎ WorksUnkeptOn machine (faults_of words) (request_of words) status

-- there are such words; no contract says which words the program was started with
pub record HasHeard {Disk File Stream Console : Type 0} (machine : Machine Disk File Stream Console) (status : ℕ) : Type 0 where
  pub words : List (List ℕ)
  pub hears : Hears machine words status

-- the words can't be had, for want of memory or since one isn't text: this is told, and nothing is done
abbrev pub IsUnheard : {C : Type 0} → Ending C → Type 0
IsUnheard ending = FailureEnds ending Memory ⊎ FailureEnds ending Words

pub record IsUnheardOn {Disk File Stream Console : Type 0} (machine : Machine Disk File Stream Console) (status : ℕ) : Type 0 where
  pub console : Console
  pub console_left : Console
  pub unheard : IsUnheard (ending_on machine console console_left status)

-- the program
abbrev pub RunsOn : {Disk File Stream Console : Type 0} → Machine Disk File Stream Console → (status : ℕ) → Type 0
RunsOn machine status = HasHeard machine status ⊎ IsUnheardOn machine status
