-- For proofs: the state whose picture's lines are composed again from the top.
use Rattle.std.specs.Prelude.{ℕ, ◌+◌, ◌*◌, ◌==◌, if◌then◌else◌, List, ◌++◌, drop}
use Rattle.pac_num.specs.Tabulate.{tabulate}
use Rattle.pac_board.specs.RomParts.{Parts}
use Rattle.pac_board.specs.State.{BoardState, passed_lines, recomposed_view}
use Rattle.pac_board.specs.Tiles.{width}
use Rattle.pac_picture.specs.Picture.{VideoRoms, VideoMemory, picture_line}
use Rattle.pac_state.specs.Fronts.{front_size}

-- where a line of the picture begins in a block
abbrev pub picture_offset : ℕ → ℕ
picture_offset y = front_size + width * y

-- so many lines of a picture composed from the top
abbrev pub composed_lines : VideoRoms → VideoMemory → ℕ → List (List ℕ) → List (List ℕ)
composed_lines roms memory count lines = tabulate count (picture_line roms memory) ++ drop count lines

abbrev pub state_with_lines : VideoRoms → VideoMemory → ℕ → BoardState → BoardState
state_with_lines roms memory count state = record {
  now = record state.now { board = record state.now.board { lines = composed_lines roms memory count state.now.board.lines } };
  asked = state.asked;
  due = state.due;
}

-- those that have passed since the last blank
abbrev pub recomposed_state : Parts → BoardState → BoardState
recomposed_state set state = record {
  now = record state.now { board = recomposed_view set state.now.board (passed_lines state.now.time) };
  asked = state.asked;
  due = state.due;
}

-- where they are missing: in a file of version 1
abbrev pub upgraded_state : Parts → ℕ → BoardState → BoardState
upgraded_state set version state = if version == 1 then recomposed_state set state else state
