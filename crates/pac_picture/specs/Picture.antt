-- Believed: the picture (Namco Pac-Man service schematics; where the choice is this profile's, the definitions of tiles,
-- sprites and colours say so). It is 288 pixels wide and 224 high, not rotated; each of its pixels, from (0, 0) at the left of
-- the top line on, is a colour number from 0 to 15.
use Rattle.std.specs.Prelude.{ℕ, ◌+◌, ◌-◌, ◌*◌, ◌/◌, ◌%◌, ◌==◌, Bool, not, if◌then◌else◌, List, slice_index, find, unwrap_or}
use Rattle.pac_num.specs.Tabulate.{tabulate}
use Rattle.pac_tiles.specs.Tiles.{width, height, tile_side, offset_of}
use Rattle.pac_tiles.specs.Tiles as tiles
use Rattle.pac_sprites.specs.declared.Sprite.{Sprite}
use Rattle.pac_sprites.specs.Sprites.{sprite_of, covers_of, box_place, flipped_place}
use Rattle.pac_sprites.specs.Sprites as sprites
use Rattle.pac_colour.specs.Colours.{index_of}

-- the ROMs that pictures are drawn from, as their bytes: 4,096 of the tile ROM, 4,096 of the sprite ROM and 256 of
-- the lookup PROM
pub record VideoRoms : Type 0 where
  pub tiles : List ℕ
  pub sprites : List ℕ
  pub lookup : List ℕ

-- what a program writes to choose the picture: the 1,024 bytes of tile RAM and of colour RAM, the 16 bytes of the
-- sprites' attributes (from 4FF0H) and of their coordinates (from 5060H), and the latch's flip bit
pub record VideoMemory : Type 0 where
  pub tile_ram : List ℕ
  pub colour_ram : List ℕ
  pub attributes : List ℕ
  pub coordinates : List ℕ
  pub flip : Bool

-- the colour number of pixel (x, y) of a tile, and of a sprite, in a colour
unfoldable pub tile_number : VideoRoms → ℕ → ℕ → ℕ → ℕ → ℕ
tile_number roms colour tile x y = index_of roms.lookup colour (tiles.tile_pixel roms.tiles tile x y)

unfoldable pub sprite_number : VideoRoms → ℕ → ℕ → ℕ → ℕ → ℕ
sprite_number roms colour code x y = index_of roms.lookup colour (sprites.sprite_pixel roms.sprites code x y)

-- the number that the cell at (x, y) of the picture has there
unfoldable pub tile_dot : VideoRoms → VideoMemory → ℕ → ℕ → ℕ
tile_dot roms memory x y =
    let offset = offset_of (x / tile_side) (y / tile_side) in
    tile_number roms (slice_index memory.colour_ram offset) (slice_index memory.tile_ram offset) (x % tile_side) (y % tile_side)

-- a sprite, 0 to 7, as its bytes say
abbrev pub sprite_at : VideoMemory → ℕ → Sprite
sprite_at memory k =
    sprite_of (slice_index memory.attributes (2 * k)) (slice_index memory.attributes (2 * k + 1))
    (slice_index memory.coordinates (2 * k)) (slice_index memory.coordinates (2 * k + 1))

-- the number that a sprite has at (x, y) of the picture: 0, which is transparent, where it doesn't show there
unfoldable pub sprite_dot : VideoRoms → Sprite → ℕ → ℕ → ℕ
sprite_dot roms sprite x y =
    if covers_of sprite x y
    then sprite_number roms sprite.colour sprite.code
    (flipped_place sprite.flip_x (box_place sprite.left x)) (flipped_place sprite.flip_y (box_place sprite.top y))
    else 0

abbrev pub is_opaque : ℕ → Bool
is_opaque number = not (number == 0)

-- the number at (x, y) of the picture that isn't flipped: that of the least sprite which has one there that isn't
-- transparent, else that of the cell
unfoldable pub dot : VideoRoms → VideoMemory → ℕ → ℕ → ℕ
dot roms memory x y =
    unwrap_or (find is_opaque (tabulate 8 (λ k. sprite_dot roms (sprite_at memory k) x y))) (tile_dot roms memory x y)

-- line y of the picture as it is shown: flipped, it is rotated by half a turn, sprites and all
unfoldable pub picture_line : VideoRoms → VideoMemory → ℕ → List ℕ
picture_line roms memory y =
    tabulate width (λ x. if memory.flip then dot roms memory (width - 1 - x) (height - 1 - y) else dot roms memory x y)
