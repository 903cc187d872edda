-- Believed: what is printed for a script's fault (this profile).
use Rattle.std.specs.Prelude.{ℕ, List, ◌++◌, codes}
use Rattle.std.specs.Fmt.{decimal}
use Rattle.pac_inputs.specs.declared.fault.ScriptCode.{ScriptCode}
use Rattle.pac_inputs.specs.declared.fault.ScriptCode.TheVariants.{Names, Count, Length}
use Rattle.pac_inputs.specs.declared.fault.ScriptFault.{ScriptFault}

-- what is wrong, as a code
abbrev pub script_code_text : ScriptCode → List ℕ
script_code_text Names = codes "I1"
script_code_text Count = codes "I2"
script_code_text Length = codes "I3"

-- a fault: its code, and its line as a decimal number
abbrev pub script_fault_text : ScriptFault → List ℕ
script_fault_text fault = script_code_text fault.code ++ codes " line " ++ decimal fault.line
