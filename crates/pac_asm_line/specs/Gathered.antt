-- For proofs: what the code keeps of the bytes of a line while it reads them, and what a call answers beside want of memory.
use Rattle.std.specs.Prelude.{◌≡◌, ℕ, List, Option, Some, None, Result, Ok, Err}
use Rattle.pac_asm_operation.specs.declared.fault.OperationFault.{OperationFault}
use Rattle.pac_asm_line.specs.declared.gathered.Gathered.{Gathered}
use Rattle.pac_asm_line.specs.declared.gathered.ContentError.{ContentError}
use Rattle.pac_asm_line.specs.declared.gathered.ContentError.TheVariants as errors
use Rattle.pac_asm_line.specs.Contents.{OrFault}

-- the bytes, or the first fault
abbrev pub bytes_or_fault : Option OperationFault → List ℕ → OrFault (List ℕ)
bytes_or_fault None bytes = Ok bytes
bytes_or_fault (Some fault) bytes = Err fault

abbrev pub gathered_so_far : Gathered → OrFault (List ℕ)
gathered_so_far found = bytes_or_fault found.fault found.bytes.items

-- The answer is what is given, unless memory ran out.
abbrev pub ContentFails : {X : Type 0} → ContentError → OrFault X → Type 0
ContentFails errors.Memory given = Unit {0}
ContentFails (errors.Fault fault) given = given ≡ Err fault

abbrev pub ContentGives : {X Y : Type 0} → (X → Y) → Result X ContentError → OrFault Y → Type 0
ContentGives view (Ok x) given = given ≡ Ok (view x)
ContentGives view (Err e) given = ContentFails e given
