-- For proofs: what is made of the ROMs and of the block that a host hands in.
use Rattle.std.specs.Prelude.{◌≡◌, ◌≢◌, ◌≤◌, ◌<◌, ◌+◌, ◌-◌, ◌^◌, List, ℕ, length, min, ⊤}
use Rattle.std.specs.Prelude.{Option, None, Some, Result, Ok, Err}
use Rattle.pac_board.specs.BoardFields.{Fields}
use Rattle.pac_board.specs.State.{BoardState, BoardValue, most_asked, time_of}
use Rattle.pac_board.specs.Stop.{Stop}
use Rattle.pac_state.specs.Block.{IsBlock}
use Rattle.pac_state.specs.Framed.{TellsFields}
use Rattle.pac_state.specs.Fronts.{IsFrontOf}
use Rattle.pac_state.specs.Reading.{state_in}
use Rattle.pac_block.specs.declared.codes.HostFault.{HostFault}
use Rattle.pac_block.specs.declared.codes.HostFault.TheVariants.{WrongLength, NoBoard, TooLong, NoRoom}
use Rattle.pac_block.specs.Host.{board_in, roms_size, most_samples}

-- whether ROMs have their length
abbrev pub HaveLength : List ℕ → Result (Unit {0}) HostFault → Type 0
HaveLength roms (Ok done) = length roms ≡ roms_size
HaveLength roms (Err fault) = (length roms ≢ roms_size) × (fault ≡ WrongLength)

-- the fields of this block, if it is the block of a state
abbrev pub OpensBlock : List ℕ → Result Fields HostFault → Type 0
OpensBlock block (Ok fields) = TellsFields IsBlock block (Some fields)
OpensBlock block (Err fault) = TellsFields IsBlock block None × (fault ≡ NoBoard)

-- what a block begins with where its board becomes another one that has the same picture, if it is the block of a state
pub record HasFront (becomes : BoardValue → BoardValue) (block front : List ℕ) : Type 0 where
  pub is_block : IsBlock block
  pub front_is : (roms : List ℕ) → IsFrontOf (becomes (board_in roms block)).state front
  pub lines : (roms : List ℕ) → (becomes (board_in roms block)).state.now.board.lines ≡ (state_in block).now.board.lines

abbrev pub TellsFront : (BoardValue → BoardValue) → List ℕ → Result (List ℕ) HostFault → Type 0
TellsFront becomes block (Ok front) = HasFront becomes block front
TellsFront becomes block (Err fault) = (IsBlock block → ⊥) × (fault ≡ NoBoard)

-- whether a call for so many microseconds may begin, with a buffer for so many samples
abbrev pub MayRun : (state : BoardState) (microseconds room : ℕ) → Result (Unit {0}) HostFault → Type 0
MayRun state microseconds room (Ok done) =
    (state.asked + microseconds ≤ most_asked) × (most_samples state microseconds ≤ min room (2 ^ 32 - 1))
MayRun state microseconds room (Err TooLong) = most_asked < state.asked + microseconds
MayRun state microseconds room (Err NoRoom) =
    (state.asked + microseconds ≤ most_asked) × (min room (2 ^ 32 - 1) < most_samples state microseconds)
MayRun state microseconds room (Err fault) = ⊥

-- where a stop was met, the time that was asked isn't over
abbrev pub StopsEarly : Option Stop → BoardState → Type 0
StopsEarly None state = ⊤
StopsEarly (Some stop) state = state.now.time < time_of state.asked
