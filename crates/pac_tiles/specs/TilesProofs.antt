-- For proofs: what proofs say of the definitions of Tiles.antt.
use Rattle.std.specs.Prelude.{ℕ}

-- the bytes of the tile ROM and of tile RAM
abbrev pub tile_rom_size : ℕ
tile_rom_size = 4096

abbrev pub tile_ram_size : ℕ
tile_ram_size = 1024
