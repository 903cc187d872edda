-- Believed: what a manifest says (this profile): a TOML document with a table for each part.
use Rattle.std.specs.Prelude.{ℕ, List, [], ◌∷◌, codes, if◌then◌else◌}
use Rattle.std.specs.Prelude.{Option, Some, None, option_map, option_and_then, ok_or, Result, slice_get}
use Rattle.std.specs.Result.{result_ok}
use Rattle.std.specs.Str.{is_utf8}
use Rattle.toml.specs.Data.{Data, array, no_items, item, Members, as_str, as_table, get_member}
use Rattle.toml.specs.Parse.{parse_document}
use Rattle.hex.specs.Hex.{decode_sized}
use Rattle.pac_roms_manifest.specs.Entries.{PlainEntry}
use Rattle.pac_roms_manifest.specs.Parts.{part_name_text}
use Rattle.pac_roms_manifest.specs.declared.fault.ManifestCode.TheVariants as code
use Rattle.pac_roms_manifest.specs.declared.fault.SetFault.{SetFault}
use Rattle.pac_roms_manifest.specs.declared.manifest.Manifest.{Manifest}
use Rattle.pac_roms_manifest.specs.declared.part.PartName.{PartName}
use Rattle.pac_roms_manifest.specs.declared.part.PartName.TheVariants.{Program1, Program2, Program3, Program4, Tiles, Sprites}
use Rattle.pac_roms_manifest.specs.declared.part.PartName.TheVariants.{Colours, Lookup, Wave, Timing}

infixl 10 ◌>>=◌
abbrev pub ◌>>=◌ : {A B : Type 0} → Option A → (A → Option B) → Option B
o >>= f = option_and_then f o

-- ---- forms: what a value says, or nothing where it is of another form

-- what a key's value says, where the key is there
abbrev pub optional : {A : Type 0} → (Data → Option A) → Option Data → Option (Option A)
optional form None = Some None
optional form (Some value) = option_map Some (form value)

-- a digest: a text of 40 hexadecimal digits, in either case
abbrev pub digest_form : Data → Option (List ℕ)
digest_form value = as_str value >>= λ digits. result_ok (decode_sized digits 20)

-- the table of a part
abbrev pub entry_form : Data → Option PlainEntry
entry_form value = do
  keys ← as_table value
  file ← optional as_str (get_member (codes "file") keys)
  digest ← optional digest_form (get_member (codes "sha1") keys)
  Some (record { file = file; digest = digest })

-- the program: an array of four tables
abbrev pub program_form : Data → Option (List PlainEntry)
program_form (array (item first (item second (item third (item fourth no_items))))) = do
  first ← entry_form first
  second ← entry_form second
  third ← entry_form third
  fourth ← entry_form fourth
  Some (first ∷ second ∷ third ∷ fourth ∷ [])
program_form value = None

-- the table of a part among those of a manifest
abbrev pub table_form : Members → PartName → Option (Option PlainEntry)
table_form keys part = optional entry_form (get_member (part_name_text part) keys)

-- the whole manifest; it may have other keys
abbrev pub manifest_form : Members → Option Manifest
manifest_form keys = do
  program ← optional program_form (get_member (codes "program") keys)
  tiles ← table_form keys Tiles
  sprites ← table_form keys Sprites
  colours ← table_form keys Colours
  lookup ← table_form keys Lookup
  wave ← table_form keys Wave
  timing ← table_form keys Timing
  Some (record {
    program = program;
    tiles = tiles;
    sprites = sprites;
    colours = colours;
    lookup = lookup;
    wave = wave;
    timing = timing;
  })

-- ---- texts

-- the table that a TOML document is, which has to be UTF-8
abbrev pub document_table : List ℕ → Option Members
document_table text = if is_utf8 text then parse_document text else None

-- the manifest that a text is, or M1
unfoldable pub manifest_of : List ℕ → Result Manifest SetFault
manifest_of text = ok_or (document_table text >>= manifest_form) (record { code = code.Manifest; part = None })

-- ---- what a manifest says of a part

-- the n-th of the program's ROMs, from 0
abbrev pub program_rom : Manifest → ℕ → Option PlainEntry
program_rom manifest n = manifest.program >>= λ roms. slice_get roms n

abbrev pub entry_of_part : Manifest → PartName → Option PlainEntry
entry_of_part manifest Program1 = program_rom manifest 0
entry_of_part manifest Program2 = program_rom manifest 1
entry_of_part manifest Program3 = program_rom manifest 2
entry_of_part manifest Program4 = program_rom manifest 3
entry_of_part manifest Tiles = manifest.tiles
entry_of_part manifest Sprites = manifest.sprites
entry_of_part manifest Colours = manifest.colours
entry_of_part manifest Lookup = manifest.lookup
entry_of_part manifest Wave = manifest.wave
entry_of_part manifest Timing = manifest.timing

abbrev pub file_of_part : Manifest → PartName → Option (List ℕ)
file_of_part manifest part = entry_of_part manifest part >>= λ said. said.file

abbrev pub digest_of_part : Manifest → PartName → Option (List ℕ)
digest_of_part manifest part = entry_of_part manifest part >>= λ said. said.digest
