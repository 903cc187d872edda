-- Law: what is proved of the definitions of Picture.antt.
use Rattle.pac_picture.specs.Picture.{VideoRoms, VideoMemory, picture_line}
use Rattle.std.specs.Prelude.{List, ℕ}
use Rattle.pac_num.specs.Tabulate.{tabulate}
use Rattle.pac_tiles.specs.Tiles.{height}

-- the picture as it is shown, line by line from the top
unfoldable pub picture_of : VideoRoms → VideoMemory → List (List ℕ)
picture_of roms memory = tabulate height (picture_line roms memory)
