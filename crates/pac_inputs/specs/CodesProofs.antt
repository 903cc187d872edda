-- For proofs: what proofs say of the definitions of Codes.antt.
use Rattle.pac_inputs.specs.declared.fault.ScriptError.{ScriptError}
use Rattle.std.specs.Prelude.{List, ℕ, codes}
use Rattle.pac_inputs.specs.declared.fault.ScriptError.TheVariants.{Memory, Fault}
use Rattle.pac_inputs.specs.Codes.{script_fault_text}

-- why there is no script
abbrev pub script_error_text : ScriptError → List ℕ
script_error_text Memory = codes "out of memory"
script_error_text (Fault fault) = script_fault_text fault
