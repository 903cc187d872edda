-- For proofs: what proofs say of the definitions of Plan.antt.
use Rattle.pac_roms_manifest.specs.declared.fault.SetError.TheVariants as reading
use Rattle.pac_run.specs.declared.fault.RunFault.TheVariants as fault
use Rattle.pac_roms_manifest.specs.declared.fault.SetError.{SetError}
use Rattle.pac_run.specs.declared.fault.RunFault.{RunFault}
use Rattle.std.specs.Prelude.{Result, Ok, Err, ◌≡◌, Option, None, Some, List, []}
use Rattle.pac_asm.specs.Assembled.{Assembled, items_of}
use Rattle.pac_asm.specs.PlacedItems.{AllLie}
use Rattle.pac_board_course.specs.RomParts.{Parts}
use Rattle.pac_asm.specs.PlacedItems.{Item}
use Rattle.pac_asm.specs.declared.fault.AsmFault.{AsmFault}
use Rattle.pac_board_course.specs.Stretch.{Stretch}
use Rattle.pac_board_course.specs.ScriptFault.{ScriptFault}
use Rattle.pac_roms_manifest.specs.declared.fault.SetFault.{SetFault}
use Rattle.std.specs.Option.{option_map_or}
use Rattle.std.specs.Result.{result_map_both}

-- what is judged, with its fault as one of the run
abbrev pub program_told : Result Assembled AsmFault → Result (Option Assembled) RunFault
program_told judged = result_map_both Some fault.Source judged

abbrev pub set_told : {A : Type 0} → Result A SetFault → Result A RunFault
set_told judged = result_map_both (λ value. value) fault.Set judged

abbrev pub script_told : Result (List Stretch) ScriptFault → Result (List Stretch) RunFault
script_told judged = result_map_both (λ script. script) fault.Script judged

-- the items of a program, where there is one
abbrev pub program_items : Option Assembled → List Item
program_items program = option_map_or items_of program []

-- a fault of the set, or want of memory
abbrev pub fault_told : SetError → RunFault
fault_told (reading.Fault refused) = fault.Set refused
fault_told reading.Memory = fault.NoMemory

-- What was returned is what the definition says, unless memory ran out.
abbrev pub Judges : {A : Type 0} → Result A RunFault → Result A RunFault → Type 0
Judges (Ok value) defined = defined ≡ Ok value
Judges (Err fault.NoMemory) defined = Unit {0}
Judges (Err refusal) defined = defined ≡ Err refusal

-- a program's items lie in its ROM
abbrev pub LieIn : Option Assembled → Type 0
LieIn None = Unit {0}
LieIn (Some program) = AllLie program.rom (items_of program)

-- the set that a run has plays the items of its program
abbrev pub PlaysProgram : Parts → Option Assembled → Type 0
PlaysProgram set program = AllLie set.program (program_items program)
