-- Law: after a frame nothing is left of the picture that a board began with.
use Rattle.std.specs.Prelude.{◌≡◌, ◌≤◌, ℕ, ◌+◌, ◌/◌, List}
use Rattle.pac_map.specs.RomParts.{Parts, IsWhole}
use Rattle.pac_picture.specs.State.{IsPicture}
use Rattle.pac_board_model.specs.BoardView.{BoardView, IsBoard}
use Rattle.pac_board_model.specs.Step.{Moment, step, line_ticks, scan_lines}
use Rattle.pac_board_model.specs.Trace.{by_view}
use Rattle.pac_board_model.specs.Walk.{walk}

-- the same moment of a board with another picture
abbrev pub with_lines : Moment BoardView → List (List ℕ) → Moment BoardView
with_lines now lines = record now { board = record now.board { lines = lines } }

-- Whatever picture a board has, once 264 lines of the scan have ended all of it was composed anew: the board is then what it would be with
-- any other picture at first.
abbrev pub PictureIsForgotten : Type 0
PictureIsForgotten =
    (set : Parts) (limit tries : ℕ) (from : Moment BoardView) (lines : List (List ℕ)) → IsWhole set → IsBoard from.board
    → IsPicture lines
    → from.time / line_ticks + scan_lines ≤ (walk (step (by_view set)) limit from tries).now.time / line_ticks
    → (walk (step (by_view set)) limit (with_lines from lines) tries).now ≡ (walk (step (by_view set)) limit from tries).now
