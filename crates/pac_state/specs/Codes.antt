-- Believed: what is printed for a state file's fault (this profile).
use Rattle.std.specs.Prelude.{ℕ, List, codes}
use Rattle.pac_state.specs.declared.fault.LoadFault.{LoadFault}
use Rattle.pac_state.specs.declared.fault.LoadFault.TheVariants.{NoState, OtherVersion, Size, OutOfRange, Damaged, OtherSet, NoMemory}

abbrev pub load_fault_text : LoadFault → List ℕ
load_fault_text NoState = codes "V1"
load_fault_text OtherVersion = codes "V2"
load_fault_text Size = codes "V3"
load_fault_text OutOfRange = codes "V4"
load_fault_text Damaged = codes "V5"
load_fault_text OtherSet = codes "V6"
load_fault_text NoMemory = codes "no memory"
