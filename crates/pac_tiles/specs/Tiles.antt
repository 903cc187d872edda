-- Believed: the tiles of a picture (Namco Pac-Man service schematics; the order of cells and bits is this profile's). The
-- picture is 288 pixels wide and 224 high, not rotated: 36 columns and 28 rows of cells, each of 8 by 8 pixels.
use Rattle.std.specs.Prelude.{ℕ, ◌+◌, ◌-◌, ◌*◌, ◌%◌, nat_le, nat_lt, ◌&&◌, if◌then◌else◌, List, slice_index}
use Rattle.pac_num.specs.Pixels.{pixel_value}

-- the picture's size in pixels
abbrev pub width : ℕ
width = 288

abbrev pub height : ℕ
height = 224

-- the pixels on a side of a tile, and of the cell that shows it
abbrev pub tile_side : ℕ
tile_side = 8

-- pixel (x, y) of a tile: a tile has 16 bytes of the tile ROM, first those of its right half from the top, then
-- those of its left half
abbrev pub tile_pixel : List ℕ → ℕ → ℕ → ℕ → ℕ
tile_pixel rom tile x y = pixel_value (slice_index rom (16 * tile + y + (if nat_lt x 4 then 8 else 0))) x

-- where in tile RAM the cell of a column and a row stands: the 32 columns in the middle go through RAM row by
-- row, the two on either side column by column
abbrev pub offset_of : ℕ → ℕ → ℕ
offset_of column row =
    if nat_le 2 column && nat_lt column 34
    then column - 2 + 32 * (row + 2)
    else row + 2 + 32 * ((column + 30) % 32)
