-- Believed: the memory of a live board's handle: a board lies in it, or it is lent for one.
use Rattle.std.specs.Prelude.{ℕ, ◌==◌, nat_le, Bool, true, false}
use Rattle.pac_board.specs.State.{BoardValue}
use Rattle.pac_board.specs.contracts.board.Board.{the_row}
use Rattle.std.specs.Mem.{type_size}
use base.Fml.{Fml, ftrue}
use base.Fraction.{full_share}
use denote.RawPtr.{Ptr, lies_at, room_at}

-- the seal of an open handle: the bytes of 'PACLIVE1', the low one first
abbrev pub live_seal : ℕ
live_seal = 3550338754063581520

-- the bytes that a board takes
abbrev pub live_size : ℕ
live_size = type_size the_row

-- a board lies there; or there is room for one, where the memory is large enough
abbrev pub live_memory : (lies large : Bool) → Ptr → BoardValue → Fml
live_memory true large at board = lies_at the_row full_share at board
live_memory false true at board = room_at the_row at
live_memory false false at board = ftrue

abbrev pub live_owns : (seal size : ℕ) → Ptr → BoardValue → Fml
live_owns seal size at board = live_memory (seal == live_seal) (nat_le live_size size) at board
