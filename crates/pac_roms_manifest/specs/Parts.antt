-- Believed: the parts of a ROM set: their names, order and sizes (Namco Pac-Man service schematics; names and order are
-- this profile's).
use Rattle.std.specs.Prelude.{ℕ, Bool, List, [], ◌∷◌, codes, bytes_eq}
use Rattle.pac_roms.specs.Parts.{tiles_size, sprites_size, colour_prom_size, lookup_prom_size, wave_prom_size}
use Rattle.pac_roms_manifest.specs.declared.part.Part.{Part}
use Rattle.pac_roms_manifest.specs.declared.part.PartName.{PartName}
use Rattle.pac_roms_manifest.specs.declared.part.PartName.TheVariants.{Program1, Program2, Program3, Program4, Tiles, Sprites}
use Rattle.pac_roms_manifest.specs.declared.part.PartName.TheVariants.{Colours, Lookup, Wave, Timing}

-- the order in which files are read and faults are told
abbrev pub parts_in_order : List PartName
parts_in_order =
    Program1 ∷ Program2 ∷ Program3 ∷ Program4 ∷ Tiles ∷ Sprites ∷ Colours ∷ Lookup ∷ Wave ∷ Timing ∷ []

-- the name of a part, as the manifest and the messages have it
abbrev pub part_name_text : PartName → List ℕ
part_name_text Program1 = codes "program1"
part_name_text Program2 = codes "program2"
part_name_text Program3 = codes "program3"
part_name_text Program4 = codes "program4"
part_name_text Tiles = codes "tiles"
part_name_text Sprites = codes "sprites"
part_name_text Colours = codes "colours"
part_name_text Lookup = codes "lookup"
part_name_text Wave = codes "wave"
part_name_text Timing = codes "timing"

-- the bytes that a part has: a quarter of the program for each of its ROMs
abbrev pub rom_part_size : PartName → ℕ
rom_part_size Tiles = tiles_size
rom_part_size Sprites = sprites_size
rom_part_size Colours = colour_prom_size
rom_part_size Lookup = lookup_prom_size
rom_part_size Wave = wave_prom_size
rom_part_size Timing = 256
rom_part_size program = 4096

-- a file has this name
abbrev pub is_named : List ℕ → Part → Bool
is_named name file = bytes_eq file.name.now name
