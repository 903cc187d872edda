-- Believed: what disassembling bytes leaves of the text's output, by the answer.
use Rattle.std.specs.Prelude.{◌≡◌, ◌<◌, ◌≤◌, ◌⊎◌, ℕ, List, length, Result, Ok, Err}
use Rattle.pac_dis.specs.Lines.{disassembly}
use Rattle.pac_run.specs.declared.fault.Output.TheVariants.{Text}
use Rattle.pac_run.specs.Run.{Writing, TakesText, StopsInText, IsUnwritten}
use Rattle.pac_run_command.specs.declared.failure.Failure.{Failure}
use Rattle.pac_run_command.specs.declared.failure.Failure.TheVariants.{Extent, Write}
use Rattle.pac_run_command.specs.declared.failure.Target.TheVariants.{Of}

-- the bytes that have addresses
abbrev pub address_count : ℕ
address_count = 65536

-- there is a byte, and there are no more than have addresses; or it is otherwise
abbrev pub HasAddresses : List ℕ → Type 0
HasAddresses bytes = (0 < length bytes) × (length bytes ≤ address_count)

abbrev pub IsOutside : List ℕ → Type 0
IsOutside bytes = (length bytes ≡ 0) ⊎ (address_count < length bytes)

abbrev pub WritesDisassembly : {W : Type 0} → List ℕ → Writing W → Result Unit Failure → Type 0
WritesDisassembly bytes text (Ok done) = HasAddresses bytes × TakesText text (disassembly bytes)
WritesDisassembly bytes text (Err (Write (Of Text) count)) = HasAddresses bytes × StopsInText text (disassembly bytes) count
WritesDisassembly bytes text (Err Extent) = IsOutside bytes × IsUnwritten text
WritesDisassembly bytes text (Err other) = ⊥
