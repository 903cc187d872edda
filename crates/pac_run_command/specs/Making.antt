-- Believed: what `asm` and `dis` do with files, by the answer.
use Rattle.std.specs.Prelude.{◌≡◌, ◌⊎◌, ℕ, List, [], ◌∷◌, Some, Result, Err}
use Rattle.pac_run_options.specs.CommandLine.{AskedAsm}
use Rattle.pac_run.specs.declared.fault.Output.TheVariants.{Listing}
use Rattle.pac_run_command.specs.declared.asm.AsmOutputs.{AsmOutputs}
use Rattle.pac_run_command.specs.declared.failure.Failure.{Failure}
use Rattle.pac_run_command.specs.declared.failure.Failure.TheVariants.{Read, Write, Memory}
use Rattle.pac_run_command.specs.declared.failure.Target.{Target}
use Rattle.pac_run_command.specs.declared.failure.Target.TheVariants.{Of, Rom}
use Rattle.pac_run_command.specs.Programs.{Assembling}
use Rattle.pac_run_files.specs.declared.files.FileKind.TheVariants.{Any}
use Rattle.pac_run_files.specs.Files.{FindsFile, as_given, IsUnread, Handling, WantedOutput, AllBegun, AllClosed, FirstUnbegun}
use Rattle.pac_run_files.specs.Files.{created_empty}

-- ROM and listing, in the order in which they are created
abbrev pub asm_outputs : AskedAsm → List (WantedOutput Target)
asm_outputs asked = created_empty Rom asked.rom ∷ created_empty (Of Listing) asked.listing ∷ []

abbrev pub asm_output_files : {File : Type 0} → AsmOutputs File → List File
asm_output_files outputs = outputs.rom ∷ outputs.listing ∷ []

-- both were created, then the source was assembled, and then both were closed as this left them: no more is written to them
pub record IsMade {Disk File : Type 0} (finds : FindsFile) (handling : Handling Disk File) (assembles : Assembling File) (asked : AskedAsm)
    (old : Disk) (answer : Result Unit Failure) (new : Disk) : Type 0 where
  pub source : List ℕ
  pub source_is : finds.bytes Any asked.source (Some source)
  pub created : AsmOutputs File
  pub during : Disk
  pub all_begun : AllBegun handling old (asm_outputs asked) (asm_output_files created) during
  pub left : AsmOutputs File
  pub assembled : assembles source answer created left
  pub all_closed : AllClosed handling during (asm_output_files left) new

-- the source was read, and one couldn't be created
pub record IsAsmUncreated {Disk File : Type 0} (finds : FindsFile) (handling : Handling Disk File) (asked : AskedAsm) (old : Disk)
    (answer : Result Unit Failure) (new : Disk) : Type 0 where
  pub source : List ℕ
  pub source_is : finds.bytes Any asked.source (Some source)
  pub output : Target
  pub answer_is : answer ≡ Err (Write output 0)
  pub first : FirstUnbegun handling old (asm_outputs asked) output new

-- the source can't be read, or memory ran out; a failure of no other kind
abbrev pub IsUnreadable : FindsFile → List ℕ → Result Unit Failure → Type 0
IsUnreadable finds source (Err (Read name)) = IsUnread finds (as_given source) name.now
IsUnreadable finds source (Err Memory) = Unit {0}
IsUnreadable finds source other = ⊥

abbrev pub Makes : {Disk File : Type 0} → FindsFile → Handling Disk File → Assembling File → AskedAsm → Disk → Result Unit Failure → Disk
    → Type 0
Makes finds handling assembles asked old answer new =
    IsMade finds handling assembles asked old answer new
    ⊎ IsAsmUncreated finds handling asked old answer new
    ⊎ (IsUnreadable finds asked.source answer × (new ≡ old))

-- what `dis` does with the bytes of its file
pub record IsDisassembled (finds : FindsFile) (name : List ℕ) (disassembles : (bytes : List ℕ) → Type 0) : Type 0 where
  pub bytes : List ℕ
  pub bytes_are : finds.bytes Any name (Some bytes)
  pub told : disassembles bytes

abbrev pub TellsDisassembly : FindsFile → (disassembles : (bytes : List ℕ) → Result Unit Failure → Type 0) → (silent : Type 0) → List ℕ
    → Result Unit Failure → Type 0
TellsDisassembly finds disassembles silent name answer =
    IsDisassembled finds name (λ bytes. disassembles bytes answer) ⊎ (IsUnreadable finds name answer × silent)
