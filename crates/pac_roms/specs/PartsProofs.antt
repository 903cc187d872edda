-- For proofs: what proofs say of the definitions of Parts.antt.
use Rattle.pac_roms.specs.Parts.{Parts, program_size, tiles_size, sprites_size, colour_prom_size, lookup_prom_size, wave_prom_size}
use Rattle.std.specs.Prelude.{replicate, List, ℕ}
use Rattle.pac_roms.specs.declared.set.Raw.{Raw}

-- parts of which each byte is 0
unfoldable pub zero_parts : Parts
zero_parts = record {
  program = replicate program_size 0;
  tiles = replicate tiles_size 0;
  sprites = replicate sprites_size 0;
  colours = replicate colour_prom_size 0;
  lookup = replicate lookup_prom_size 0;
  wave = replicate wave_prom_size 0;
}

-- the parts that are handed in as bytes, the program beside the others
abbrev pub parts_of : List ℕ → Raw → Parts
parts_of program raw = record {
  program = program;
  tiles = raw.tiles.now;
  sprites = raw.sprites.now;
  colours = raw.colours.now;
  lookup = raw.lookup.now;
  wave = raw.wave.now;
}
