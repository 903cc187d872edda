-- Believed: what clauses see of a picture, and what composing it does.
use Rattle.std.specs.Prelude.{◌≡◌, ℕ, ◌<◌, List, [], length, replicate, slice_index, slice_index_or}
use Rattle.pac_num.specs.Tabulate.{tabulate}
use Rattle.pac_tiles.specs.Tiles.{width, height}
use Rattle.pac_colour.specs.Colours.{rgb_of, numbers}

-- the palette of the colour PROM's first 16 bytes
unfoldable pub palette_of : List ℕ → List (List ℕ)
palette_of colours = tabulate numbers (λ n. rgb_of (slice_index colours n))

-- lines of colour number 0 alone
unfoldable pub black : List (List ℕ)
black = tabulate height (λ _. replicate width 0)

-- the lines have the picture's size, and their numbers are colour numbers
pub record IsPicture (lines : List (List ℕ)) : Type 0 where
  pub high : length lines ≡ height
  pub wide : (y : ℕ) → y < height → length (slice_index_or lines y []) ≡ width
  pub below : (x y : ℕ) → slice_index (slice_index_or lines y []) x < numbers
