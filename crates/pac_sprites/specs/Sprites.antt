-- Believed: sprites of the picture (Namco Pac-Man service schematics; the order of bytes and bits, the places and the
-- flips are this profile's). The picture is 288 pixels wide and 224 high, not rotated.
use Rattle.std.specs.Prelude.{ℕ, ℤ, pos, Bool, List, slice_index, ◌+◌, ◌-◌, ◌*◌, ◌/◌, ◌%◌, ◌==◌, ◌-ℤ◌}
use Rattle.std.specs.Prelude.{nat_le, nat_lt, ◌&&◌, if◌then◌else◌}
use Rattle.std.specs.Int.{int_gap}
use Rattle.std.specs.Int.Signed.{le_z}
use Rattle.pac_num.specs.Numbers.{bit}
use Rattle.pac_num.specs.Pixels.{pixel_value}
use Rattle.pac_sprites.specs.declared.Sprite.{Sprite}

abbrev pub sprite_colours : ℕ
sprite_colours = 32

-- the pixels on a side of a sprite, and of the box that shows it
abbrev pub sprite_side : ℕ
sprite_side = 16

-- the columns of the picture at which sprites show: the first of them, and the first after them
abbrev pub first_column : ℕ
first_column = 16

abbrev pub end_column : ℕ
end_column = 272

-- which byte of a sprite's 64 has pixel (x, y): the quarters, of four columns each, have their upper eight lines
-- from byte 8, 16, 24 and 0 on, from left to right, and their lower eight lines 32 bytes further on
abbrev pub pixel_byte_index : ℕ → ℕ → ℕ
pixel_byte_index x y = 8 * ((x / 4 + 1) % 4) + y % 8 + 32 * (y / 8)

-- pixel (x, y) of a sprite of the sprite ROM
abbrev pub sprite_pixel : List ℕ → ℕ → ℕ → ℕ → ℕ
sprite_pixel rom code x y = pixel_value (slice_index rom (64 * code + pixel_byte_index x y)) x

-- what the bytes of a sprite say, two of attributes and two of coordinates, in the order of their addresses: its
-- box, of 16 by 16 pixels, begins at a column and a line that may lie outside the picture
abbrev pub sprite_of : ℕ → ℕ → ℕ → ℕ → Sprite
sprite_of shape colour line column = record {
  code = shape / 4;
  flip_x = bit shape 0 == 1;
  flip_y = bit shape 1 == 1;
  colour = colour % sprite_colours;
  left = pos 272 -ℤ pos column;
  top = pos line -ℤ pos 31;
}

-- how far a place of the picture, a column or a line, is from the first of a box, and whether it is one of the
-- box's 16
abbrev pub box_place : ℤ → ℕ → ℕ
box_place first place = int_gap first (pos place)

abbrev pub is_in_box : ℤ → ℕ → Bool
is_in_box first place = le_z first (pos place) && nat_lt (box_place first place) sprite_side

-- the columns of the picture at which a sprite shows: none shows in the 16 columns on either side, and no box
-- wraps
abbrev pub is_column_of : Sprite → ℕ → Bool
is_column_of sprite x = nat_le first_column x && nat_lt x end_column && is_in_box sprite.left x

-- whether a sprite shows at (x, y) of the picture
abbrev pub covers_of : Sprite → ℕ → ℕ → Bool
covers_of sprite x y = is_column_of sprite x && is_in_box sprite.top y

-- the column or the line of a sprite that stands at a place of its box, with its flip
abbrev pub flipped_place : Bool → ℕ → ℕ
flipped_place flip place = if flip then sprite_side - 1 - place else place
