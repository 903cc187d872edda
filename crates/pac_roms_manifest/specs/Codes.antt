-- Believed: what is printed for a fault of a ROM set (this profile).
use Rattle.std.specs.Prelude.{ℕ, List, ◌++◌, codes, Option, Some, None}
use Rattle.pac_roms_manifest.specs.Parts.{part_name_text}
use Rattle.pac_roms_manifest.specs.declared.fault.ManifestCode.{ManifestCode}
use Rattle.pac_roms_manifest.specs.declared.fault.ManifestCode.TheVariants.{Manifest, Unnamed, Size, Digest, Absent, TwoPrograms}
use Rattle.pac_roms_manifest.specs.declared.fault.SetFault.{SetFault}
use Rattle.pac_roms_manifest.specs.declared.part.PartName.{PartName}

-- what is wrong, as a code
abbrev pub set_code_text : ManifestCode → List ℕ
set_code_text Manifest = codes "M1"
set_code_text Unnamed = codes "M2"
set_code_text Size = codes "M3"
set_code_text Digest = codes "M4"
set_code_text Absent = codes "M5"
set_code_text TwoPrograms = codes "M6"

abbrev pub code_with_part : List ℕ → Option PartName → List ℕ
code_with_part code None = code
code_with_part code (Some part) = code ++ codes " " ++ part_name_text part

-- a fault: its code, and the part's name, if it is of one
abbrev pub set_fault_text : SetFault → List ℕ
set_fault_text fault = code_with_part (set_code_text fault.code) fault.part
