-- Believed: the ROM set of a manifest and its files, or the first fault (this profile).
use Rattle.std.specs.Prelude.{ℕ, List, [], ◌∷◌, ◌++◌, length, find, Bool, true, false, not, ◌&&◌, ◌==◌, bytes_eq}
use Rattle.std.specs.Prelude.{if◌then◌else◌, Option, Some, None, option_map, unwrap_or, is_some, is_none}
use Rattle.std.specs.Prelude.{Result, Ok, Err}
use Rattle.std.specs.Option.{option_or, option_map_or}
use Rattle.sha1.specs.Sha1.{sha1}
use Rattle.pac_roms.specs.Parts as roms
use Rattle.pac_roms_manifest.specs.Entries.{PlainEntry}
use Rattle.pac_roms_manifest.specs.Manifests.{◌>>=◌, entry_of_part, file_of_part, digest_of_part}
use Rattle.pac_roms_manifest.specs.Parts.{parts_in_order, is_named, rom_part_size}
use Rattle.pac_roms_manifest.specs.declared.fault.ManifestCode.{ManifestCode}
use Rattle.pac_roms_manifest.specs.declared.fault.ManifestCode.TheVariants.{Unnamed, Size, Digest, Absent, TwoPrograms}
use Rattle.pac_roms_manifest.specs.declared.fault.SetFault.{SetFault}
use Rattle.pac_roms_manifest.specs.declared.manifest.Manifest.{Manifest}
use Rattle.pac_roms_manifest.specs.declared.part.Part.{Part}
use Rattle.pac_roms_manifest.specs.declared.part.PartName.{PartName}
use Rattle.pac_roms_manifest.specs.declared.part.PartName.TheVariants.{Program1, Program2, Program3, Program4, Tiles, Sprites}
use Rattle.pac_roms_manifest.specs.declared.part.PartName.TheVariants.{Colours, Lookup, Wave, Timing}

-- ---- files

-- the bytes of the first file of a name
abbrev pub bytes_named : List Part → List ℕ → Option (List ℕ)
bytes_named files name = option_map (λ file. file.bytes.now) (find (is_named name) files)

-- ---- faults

-- the first answer that a question has at the elements of a list
abbrev pub first_answer : {A B : Type 0} → (A → Option B) → List A → Option B
first_answer question [] = None
first_answer question (x ∷ xs) = option_or (question x) (first_answer question xs)

abbrev pub fault_at : PartName → ManifestCode → SetFault
fault_at part code = record { code = code; part = Some part }

-- whether a set has to have a table for a part: for timing never, for the program where no source is assembled
abbrev pub needs_table : Bool → PartName → Bool
needs_table assembled Tiles = true
needs_table assembled Sprites = true
needs_table assembled Colours = true
needs_table assembled Lookup = true
needs_table assembled Wave = true
needs_table assembled Timing = false
needs_table assembled program = not assembled

-- no table, where there has to be one, or a table that names no file
abbrev pub is_unnamed : Bool → PartName → Option PlainEntry → Bool
is_unnamed assembled part None = needs_table assembled part
is_unnamed assembled part (Some said) = is_none said.file

-- M2
abbrev pub unnamed_fault : Manifest → Bool → PartName → Option SetFault
unnamed_fault manifest assembled part =
    if is_unnamed assembled part (entry_of_part manifest part) then Some (fault_at part Unnamed) else None

-- M6
abbrev pub two_programs_fault : Manifest → Bool → Option SetFault
two_programs_fault manifest assembled =
    if assembled && is_some manifest.program then Some (record { code = TwoPrograms; part = None }) else None

-- the digest isn't the one that the manifest says, if it says one
abbrev pub digest_differs : Option (List ℕ) → List ℕ → Bool
digest_differs None bytes = false
digest_differs (Some digest) bytes = not (bytes_eq (sha1 bytes) digest)

-- M5, M3, M4
abbrev pub code_of_part : PartName → Option (List ℕ) → Option (List ℕ) → Option ManifestCode
code_of_part part digest None = Some Absent
code_of_part part digest (Some bytes) =
    if not (length bytes == rom_part_size part) then Some Size
    else if digest_differs digest bytes then Some Digest
    else None

abbrev pub file_fault : Manifest → List Part → PartName → Option SetFault
file_fault manifest files part =
    file_of_part manifest part >>= λ name.
    option_map (fault_at part) (code_of_part part (digest_of_part manifest part) (bytes_named files name))

-- the first fault of all: M2 of any part, then M6, then part by part M5, M3 or M4
abbrev pub fault_of_set : Manifest → List Part → Bool → Option SetFault
fault_of_set manifest files assembled =
    option_or (first_answer (unnamed_fault manifest assembled) parts_in_order)
    (option_or (two_programs_fault manifest assembled)
    (first_answer (file_fault manifest files) parts_in_order))

-- ---- the set

-- the bytes of a part, none where its file isn't there
unfoldable pub rom_part_bytes : Manifest → List Part → PartName → List ℕ
rom_part_bytes manifest files part = unwrap_or (file_of_part manifest part >>= bytes_named files) []

-- the program: that of the source, or else the four ROMs one after another
abbrev pub program_bytes : Manifest → List Part → Option (List ℕ) → List ℕ
program_bytes manifest files (Some rom) = rom
program_bytes manifest files None =
    rom_part_bytes manifest files Program1 ++ rom_part_bytes manifest files Program2
    ++ rom_part_bytes manifest files Program3 ++ rom_part_bytes manifest files Program4

abbrev pub parts_of_set : Manifest → List Part → Option (List ℕ) → roms.Parts
parts_of_set manifest files assembled = record {
  program = program_bytes manifest files assembled;
  tiles = rom_part_bytes manifest files Tiles;
  sprites = rom_part_bytes manifest files Sprites;
  colours = rom_part_bytes manifest files Colours;
  lookup = rom_part_bytes manifest files Lookup;
  wave = rom_part_bytes manifest files Wave;
}

-- the set, or the first fault
unfoldable pub set_of : Manifest → List Part → Option (List ℕ) → Result roms.Parts SetFault
set_of manifest files assembled =
    option_map_or Err (fault_of_set manifest files (is_some assembled)) (Ok (parts_of_set manifest files assembled))

-- the digest of a set: that of its parts, one after another
abbrev pub digest_of : roms.Parts → List ℕ
digest_of set = sha1 (set.program ++ set.tiles ++ set.sprites ++ set.colours ++ set.lookup ++ set.wave)
