-- For proofs: what proofs say of the definitions of Codes.antt.
use Rattle.pac_roms_manifest.specs.declared.fault.SetError.{SetError}
use Rattle.std.specs.Prelude.{List, ℕ, codes}
use Rattle.pac_roms_manifest.specs.declared.fault.SetError.TheVariants.{Memory, Fault}
use Rattle.pac_roms_manifest.specs.Codes.{set_fault_text}

-- why there is no set
abbrev pub set_error_text : SetError → List ℕ
set_error_text Memory = codes "out of memory"
set_error_text (Fault fault) = set_fault_text fault
