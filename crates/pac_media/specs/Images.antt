-- Believed: the text of an image: binary PPM (Netpbm, "PPM Format Specification", P6).
use Rattle.std.specs.Prelude.{ℕ, List, [], ◌++◌, slice_index_or, codes}
use Rattle.std.specs.List.{flat_map}

-- width, height and the greatest value of a colour
abbrev pub header : List ℕ
header = codes "P6\n288 224\n255\n"

-- red, green and blue of a colour number
abbrev pub palette_colour : List (List ℕ) → ℕ → List ℕ
palette_colour palette number = slice_index_or palette number []

-- the image of 224 lines of 288 colour numbers each, from the left of the top line on
unfoldable pub ppm_of : List (List ℕ) → List (List ℕ) → List ℕ
ppm_of lines palette = header ++ flat_map (flat_map (palette_colour palette)) lines
