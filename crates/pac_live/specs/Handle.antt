-- Believed: the handle of a live board.
use Rattle.pac_board.specs.State.{BoardValue}
use Rattle.pac_live.specs.declared.live.PacLive.{PacLive}

-- the handle of another board in the same memory
abbrev pub live_with_board : PacLive → BoardValue → PacLive
live_with_board live board = record live { board = board }
