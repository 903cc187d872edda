-- Law: the layer of tiles: the cells of the picture as they were last drawn, and which of them have to be drawn
-- again.
use Rattle.std.specs.Prelude.{◌≡◌, ℕ, ◌<◌, ◌==◌, Bool, true, false}
use Rattle.std.specs.Prelude.{not, ◌||◌, List, [], slice_index, slice_index_or, length, count_by, sum}
use Rattle.pac_num.specs.Tabulate.{tabulate}
use Rattle.pac_tiles.specs.TilesLaws.{columns, rows}
use Rattle.pac_tiles.specs.Tiles.{offset_of}
use Rattle.pac_picture.specs.declared.shadow.Shadow.{Shadow}
use Rattle.pac_picture.specs.Picture.{VideoMemory}

-- the bytes that RAM has for the cells of a row of the picture, from left to right
unfoldable pub cells_of : List ℕ → ℕ → List ℕ
cells_of ram row = tabulate columns (λ column. slice_index ram (offset_of column row))

-- the shadow of a row whose cells were drawn from these bytes, and from memory
abbrev pub shadow_from : List ℕ → List ℕ → Shadow
shadow_from tiles colours = record { tiles = tiles; colours = colours; is_drawn = true }

abbrev pub drawn_from : VideoMemory → ℕ → Shadow
drawn_from memory row = shadow_from (cells_of memory.tile_ram row) (cells_of memory.colour_ram row)

-- the shadow of a row that there isn't, and of the row of a number
abbrev pub no_shadow : Shadow
no_shadow = record { tiles = []; colours = []; is_drawn = false }

abbrev pub shadow_at : List Shadow → ℕ → Shadow
shadow_at shadows row = slice_index_or shadows row no_shadow

-- whether the cell of a column differs from these bytes of tile RAM and of colour RAM
abbrev pub cell_differs : Shadow → List ℕ → List ℕ → ℕ → Bool
cell_differs shadow tiles colours column =
    not shadow.is_drawn || not (slice_index shadow.tiles column == slice_index tiles column)
    || not (slice_index shadow.colours column == slice_index colours column)

-- how many cells of a row differ
unfoldable pub differing_cells : Shadow → List ℕ → List ℕ → ℕ
differing_cells shadow tiles colours = count_by (cell_differs shadow tiles colours) (tabulate columns (λ column. column))

-- how many cells of a row, and of the picture, differ from memory
abbrev pub differing_in : List Shadow → VideoMemory → ℕ → ℕ
differing_in shadows memory row = differing_cells (shadow_at shadows row) (cells_of memory.tile_ram row) (cells_of memory.colour_ram row)

unfoldable pub all_differing : List Shadow → VideoMemory → ℕ
all_differing shadows memory = sum (tabulate rows (differing_in shadows memory))

-- every cell of the picture counts as differing
pub record AreStale (shadows : List Shadow) : Type 0 where
  pub high : length shadows ≡ rows
  pub each : (row : ℕ) → row < rows → (shadow_at shadows row).is_drawn ≡ false
