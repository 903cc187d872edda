-- For proofs: tiles and sprites as they are decoded: the pixel values of their lines, and the numbers that a colour gives these values.
use Rattle.std.specs.Prelude.{◌≡◌, ℕ, ◌+◌, ◌*◌, ◌/◌, ◌%◌, ◌<◌, List, slice_index}
use Rattle.pac_num.specs.Tabulate.{tabulate}
use Rattle.pac_tiles.specs.Tiles.{tile_pixel}
use Rattle.pac_sprites.specs.Sprites.{sprite_pixel}
use Rattle.pac_colour.specs.Colours.{index_of}

-- two lines of a tile, one after the other: those of the pair of a number, of four
unfoldable pub tile_pair : List ℕ → ℕ → ℕ → List ℕ
tile_pair rom tile pair = tabulate 16 (λ k. tile_pixel rom tile (k % 8) (2 * pair + k / 8))

-- a line of a sprite
unfoldable pub sprite_values : List ℕ → ℕ → ℕ → List ℕ
sprite_values rom code y = tabulate 16 (λ x. sprite_pixel rom code x y)

-- places in sixteen bytes
abbrev pub ArePlaces : List ℕ → Type 0
ArePlaces places = (k : ℕ) → k < 16 → slice_index places k < 16

-- pixel values, of two bits each
abbrev pub AreValues : List ℕ → Type 0
AreValues values = (k : ℕ) → k < 16 → slice_index values k < 4

-- the numbers that a colour gives the four values
abbrev pub AreNumbersOf : List ℕ → ℕ → List ℕ → Type 0
AreNumbersOf lookup colour numbers = (value : ℕ) → value < 4 → slice_index numbers value ≡ index_of lookup colour value
