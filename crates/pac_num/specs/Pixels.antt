-- Believed: four pixels in a byte of the tile and the sprite ROM (Namco Pac-Man service schematics; the order of the bits
-- is this profile's).
use Rattle.std.specs.Prelude.{ℕ, ◌+◌, ◌-◌, ◌*◌, ◌%◌}
use Rattle.pac_num.specs.Numbers.{bit}

-- the value, 0 to 3, of the pixel in column x: the columns of a byte are four, from its bits 7 and 3 on the left to
-- its bits 4 and 0 on the right
abbrev pub pixel_value : ℕ → ℕ → ℕ
pixel_value byte x = 2 * bit byte (7 - x % 4) + bit byte (3 - x % 4)
