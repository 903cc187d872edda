-- Law: what is proved of the definitions of Shown.antt.
use Rattle.pac_map.specs.RomParts.{Parts}
use Rattle.pac_board_model.specs.BoardView.{BoardView}
use Rattle.std.specs.Prelude.{List, [], ◌∷◌, ◌++◌, ℕ, suc}
use Rattle.pac_map.specs.Entry.{Entry, Sample, Blank}
use Rattle.pac_cpu.specs.Tabulate.{tabulate}
use Rattle.pac_picture.specs.Tiles.{height}
use Rattle.pac_board_model.specs.Output.{Output, Sound, Show, image_of}
use Rattle.pac_board_model.specs.Shown.{sample_at, line_at}

-- the outputs of a history in order: each sample and each picture is that of the entries before it
abbrev pub history_outputs : Parts → BoardView → List Entry → List Output
history_outputs set start [] = []
history_outputs set start (Sample number ∷ older) = history_outputs set start older ++ Sound (sample_at set start older) ∷ []
history_outputs set start (Blank frame ∷ older) =
    history_outputs set start older ++ Show (image_of set (tabulate height (line_at set start older))) ∷ []
history_outputs set start (entry ∷ older) = history_outputs set start older

-- how many samples and how many blanks a history has
abbrev pub sample_count : List Entry → ℕ
sample_count [] = 0
sample_count (Sample number ∷ older) = suc (sample_count older)
sample_count (entry ∷ older) = sample_count older
