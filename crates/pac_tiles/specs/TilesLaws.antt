-- Law: what is proved of the definitions of Tiles.antt.
use Rattle.std.specs.Prelude.{ℕ}

-- the picture's size in cells
abbrev pub columns : ℕ
columns = 36

abbrev pub rows : ℕ
rows = 28
