-- Law: how many cells a composing draws where all cells count as differing, as they do in a picture that is new and
-- in one that has taken its lines from others.
use Rattle.std.specs.Prelude.{false, ◌≡◌, ◌≢◌, ℕ, ◌/◌}
use Rattle.pac_tiles.specs.Tiles.{tile_side}
use Rattle.pac_picture.specs.Layer.{AreStale, shadow_at}
use Rattle.pac_picture.specs.Picture.{VideoMemory}
use Rattle.pac_picture.specs.StateLaws.{PictureState, source_of, composed_picture, picture_with_line}

-- the row of cells that line y of the shown picture has
abbrev pub cell_row_of : VideoMemory → ℕ → ℕ
cell_row_of memory y = source_of memory y / tile_side

pub record DrawsStaleCells (memory : VideoMemory) (state : PictureState) : Type 0 where
  -- the whole picture: all of its 1,008 cells
  pub whole : AreStale state.shadows → (composed_picture memory state).drawn ≡ 1008
  -- a line: the 36 cells of its row
  pub line : (y : ℕ) → (shadow_at state.shadows (cell_row_of memory y)).is_drawn ≡ false → (picture_with_line y memory state).drawn ≡ 36
  -- a line: the other rows are as they were
  pub others : (y row : ℕ) → row ≢ cell_row_of memory y
      → shadow_at (picture_with_line y memory state).shadows row ≡ shadow_at state.shadows row

abbrev pub StaleCellsAreDrawn : Type 0
StaleCellsAreDrawn = (memory : VideoMemory) (state : PictureState) → DrawsStaleCells memory state
