-- Believed: colours of the picture (Namco Pac-Man service schematics: the lookup PROM, and the colour PROM with its
-- output resistors; the resistors' weights are this profile's).
use Rattle.std.specs.Prelude.{ℕ, ◌+◌, ◌*◌, ◌%◌, List, [], ◌∷◌, slice_index}
use Rattle.pac_num.specs.Numbers.{bit}

abbrev pub numbers : ℕ
numbers = 16

-- the colour number, 0 to 15, of a pixel's value in a colour: the low five bits of a colour byte say the colour,
-- and the low four bits of a lookup byte the number
abbrev pub index_of : List ℕ → ℕ → ℕ → ℕ
index_of lookup colour pixel = slice_index lookup (4 * (colour % 32) + pixel) % numbers

-- what three bits of a byte of the colour PROM, from a place on, add up to: each bit that is 1 the weight of its
-- resistor
abbrev pub three_bits : ℕ → ℕ → ℕ
three_bits byte place = 33 * bit byte place + 71 * bit byte (place + 1) + 151 * bit byte (place + 2)

-- red, green and blue of a byte of the colour PROM; blue has two bits, with resistors of its own
abbrev pub rgb_of : ℕ → List ℕ
rgb_of byte = three_bits byte 0 ∷ three_bits byte 3 ∷ (81 * bit byte 6 + 174 * bit byte 7) ∷ []
