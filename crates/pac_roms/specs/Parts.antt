-- Believed: what stands in the sockets of the board (Namco Pac-Man service schematics): the bytes of each ROM and PROM.
-- The timing PROM, whose work the board's own rules do, isn't among them.
use Rattle.std.specs.Prelude.{ℕ, List, ◌≡◌, length}

-- the sizes of the parts in bytes: the program is four ROMs of 4,096
abbrev pub program_size : ℕ
program_size = 16384

abbrev pub tiles_size : ℕ
tiles_size = 4096

abbrev pub sprites_size : ℕ
sprites_size = 4096

abbrev pub colour_prom_size : ℕ
colour_prom_size = 32

abbrev pub lookup_prom_size : ℕ
lookup_prom_size = 256

abbrev pub wave_prom_size : ℕ
wave_prom_size = 256

-- the bytes of each part
pub record Parts : Type 0 where
  -- the processor's program
  pub program : List ℕ
  -- the shapes of the tiles and of the sprites
  pub tiles : List ℕ
  pub sprites : List ℕ
  -- the colour PROM: a byte of red, green and blue for each colour number
  pub colours : List ℕ
  -- the lookup PROM: the colour number of each colour and pixel value
  pub lookup : List ℕ
  -- the wave PROM: the samples of the waveforms
  pub wave : List ℕ

-- each part has its size
pub record IsWhole (parts : Parts) : Type 0 where
  pub program : length parts.program ≡ program_size
  pub tiles : length parts.tiles ≡ tiles_size
  pub sprites : length parts.sprites ≡ sprites_size
  pub colours : length parts.colours ≡ colour_prom_size
  pub lookup : length parts.lookup ≡ lookup_prom_size
  pub wave : length parts.wave ≡ wave_prom_size
