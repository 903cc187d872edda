-- For proofs: what proofs say of the definitions of Failures.antt.
use Rattle.pac_run_files.specs.declared.given.ReadFault.TheVariants as reading
use Rattle.pac_run_files.specs.declared.given.ReadFault.{ReadFault}
use Rattle.pac_run_command.specs.declared.failure.Failure.{Failure}
use Rattle.pac_run_command.specs.declared.failure.Failure.TheVariants.{Read, Memory, Write}
use Rattle.pac_run_command.specs.declared.failure.Target.{Target}
use Rattle.std.specs.Prelude.{Result, Ok, Err, ◌≡◌}

-- the failure that a fault of reading files is
abbrev pub read_failure : ReadFault → Failure
read_failure (reading.Unreadable name) = Read name
read_failure reading.Memory = Memory

-- by the answer of creating outputs: all were created; or the one that couldn't be, after no byte
abbrev pub Opens : {A : Type 0} → (A → Type 0) → (Target → Type 0) → Result A Failure → Type 0
Opens created uncreated (Ok files) = created files
Opens created uncreated (Err (Write output count)) = (count ≡ 0) × uncreated output
Opens created uncreated (Err other) = ⊥
