-- Law: what is proved of the definitions of State.antt.
use Rattle.pac_picture.specs.Picture.{VideoRoms, VideoMemory, picture_line}
use Rattle.std.specs.Prelude.{List, ℕ, ◌-◌, if◌then◌else◌, slice_set, ◌/◌}
use Rattle.pac_picture.specs.declared.shadow.Shadow.{Shadow}
use Rattle.pac_tiles.specs.Tiles.{height, tile_side}
use Rattle.pac_picture.specs.PictureLaws.{picture_of}
use Rattle.pac_num.specs.Tabulate.{tabulate}
use Rattle.pac_tiles.specs.TilesLaws.{rows}
use Rattle.pac_picture.specs.Layer.{drawn_from, all_differing, differing_in}

-- the ROMs that the picture is drawn from; red, green and blue of the 16 colour numbers; the lines as they were last
-- composed; the shadows of the rows of cells, and how many cells the last composing drew
pub record PictureState : Type 0 where
  pub roms : VideoRoms
  pub palette : List (List ℕ)
  pub lines : List (List ℕ)
  pub shadows : List Shadow
  pub drawn : ℕ

-- the line of the picture that isn't flipped which line y of the shown one has
abbrev pub source_of : VideoMemory → ℕ → ℕ
source_of memory y = if memory.flip then height - 1 - y else y

-- the whole picture composed from one memory: all its cells are drawn from it then
abbrev pub composed_picture : VideoMemory → PictureState → PictureState
composed_picture memory state = record state {
  lines = picture_of state.roms memory;
  shadows = tabulate rows (drawn_from memory);
  drawn = all_differing state.shadows memory;
}

-- one line of the picture composed: the cells of the row that this line shows are drawn from memory then
abbrev pub picture_with_line : ℕ → VideoMemory → PictureState → PictureState
picture_with_line y memory state = record state {
  lines = slice_set state.lines y (picture_line state.roms memory y);
  shadows = slice_set state.shadows (source_of memory y / tile_side) (drawn_from memory (source_of memory y / tile_side));
  drawn = differing_in state.shadows memory (source_of memory y / tile_side);
}
