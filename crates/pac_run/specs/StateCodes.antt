-- Believed: what is printed of a state file from which no run can be taken up (this profile).
use Rattle.std.specs.Prelude.{ℕ, List, codes}
use Rattle.pac_state.specs.Codes.{load_fault_text}
use Rattle.pac_run.specs.declared.fault.StateFault.{StateFault}
use Rattle.pac_run.specs.declared.fault.StateFault.TheVariants.{File, Midst, Limit}

abbrev pub state_fault_text : StateFault → List ℕ
state_fault_text (File fault) = load_fault_text fault
state_fault_text Midst = codes "V7"
state_fault_text Limit = codes "V8"
