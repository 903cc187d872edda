-- Law: what is proved of the definitions of State.antt.
use Rattle.pac_board.specs.State.{BoardValue}
use Rattle.std.specs.Prelude.{ℕ, ◌+◌, min}
use Rattle.pac_machine.specs.Standing.{BoardState}

-- the board of which so many microseconds more were asked, without a step
abbrev pub with_more_asked : BoardValue → ℕ → BoardValue
with_more_asked board microseconds = record {
  set = board.set;
  state = record { now = board.state.now; asked = board.state.asked + microseconds; due = board.state.due };
  made = board.made;
}

-- the board of which no more than so many microseconds were asked in all
abbrev pub with_asked_at_most : BoardValue → ℕ → BoardValue
with_asked_at_most board most = record {
  set = board.set;
  state = record { now = board.state.now; asked = min board.state.asked most; due = board.state.due };
  made = board.made;
}

-- a snapshot's state put back; the set and the count of steps stay
abbrev pub restored_board : BoardValue → BoardState → BoardValue
restored_board board state = record { set = board.set; state = state; made = board.made }
