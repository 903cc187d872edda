-- Believed: what the calls of a live board do: the host's calls of one board, which lies in memory that the host lends.
use Rattle.std.specs.Prelude.{◌≡◌, ◌≢◌, ◌<◌, ◌≤◌, ◌⊎◌, ℕ, List, length, Result, Ok, Err}
use Rattle.pac_board.specs.State.{BoardValue, power_on_board}
use Rattle.pac_state.specs.Block.{IsBlock}
use Rattle.pac_state.specs.Reading.{state_in}
use Rattle.pac_block.specs.declared.codes.HostFault.{HostFault}
use Rattle.pac_block.specs.declared.codes.HostFault.TheVariants.{WrongLength, Closed}
use Rattle.pac_live.specs.declared.live.PacLive.{PacLive}
use Rattle.pac_live.specs.Handle.{live_with_board}
use Rattle.pac_block.specs.Host.{roms_size, set_of_roms, IsBlockOf, MissesBoard}
use Rattle.pac_live.specs.LiveMemory.{live_seal, live_size}

-- what a call comes to: its answer, and the board before and after it
abbrev pub BoardCall : Type 1
BoardCall = Result (Unit {0}) HostFault → (old new : BoardValue) → Type 0

-- ---- handles

-- a handle is open: its board lies in the memory
abbrev pub IsOpen : PacLive → Type 0
IsOpen live = live.seal ≡ live_seal

-- a call was made on the board of an open handle, which stays
pub record IsMadeOn (call : BoardCall) (answer : Result (Unit {0}) HostFault) (old new : PacLive) : Type 0 where
  pub is_open : IsOpen old
  pub handle : new ≡ live_with_board old new.board
  pub made : call answer old.board new.board

-- a handle that isn't open is answered so, and nothing is changed: neither the handle nor what the host handed in to be written
pub record IsClosed (stays : Type 0) (answer : Result (Unit {0}) HostFault) (old new : PacLive) : Type 0 where
  pub closed : old.seal ≢ live_seal
  pub answer_is : answer ≡ Err Closed
  pub handle : new ≡ old
  pub others : stays

abbrev pub Lives : (stays : Type 0) → BoardCall → Result (Unit {0}) HostFault → (old new : PacLive) → Type 0
Lives stays call answer old new = IsMadeOn call answer old new ⊎ IsClosed stays answer old new

-- ---- opening and closing

-- the board with these ROMs at power-on, with a byte of the DIP switches; whatever board lay there before
pub record HasOpened (roms : List ℕ) (switches : ℕ) (old new : PacLive) : Type 0 where
  pub roms_are : length roms ≡ roms_size
  pub room : live_size ≤ old.size
  pub handle : new ≡ record (live_with_board old (power_on_board (set_of_roms roms) switches)) { seal = live_seal }

abbrev pub OpenFails : (roms : List ℕ) → PacLive → HostFault → Type 0
OpenFails roms live WrongLength = (length roms ≢ roms_size) ⊎ (live.size < live_size)
OpenFails roms live fault = ⊥

abbrev pub OpensLive : (roms : List ℕ) (switches : ℕ) → Result (Unit {0}) HostFault → (old new : PacLive) → Type 0
OpensLive roms switches (Ok done) old new = HasOpened roms switches old new
OpensLive roms switches (Err fault) old new = OpenFails roms old fault × (new ≡ old)

-- no board lies there any more, and the memory is lent still
pub record HasClosed (old new : PacLive) : Type 0 where
  pub is_open : IsOpen old
  pub handle : new ≡ record old { seal = 0 }

abbrev pub Closes : Result (Unit {0}) HostFault → (old new : PacLive) → Type 0
Closes (Ok done) old new = HasClosed old new
Closes (Err fault) old new = IsClosed (Unit {0}) (Err fault) old new

-- ---- calls on a board

-- it becomes another one
abbrev pub Becoming : (BoardValue → BoardValue) → BoardCall
Becoming becomes answer old new = (answer ≡ Ok tt) × (new ≡ becomes old)

-- the board of a block and ROMs, which goes on counting its steps
pub record HasPutBlock (roms block : List ℕ) (old new : BoardValue) : Type 0 where
  pub roms_are : length roms ≡ roms_size
  pub block_is : IsBlock block
  pub board : new ≡ record { set = set_of_roms roms; state = state_in block; made = old.made }

abbrev pub Putting : (roms block : List ℕ) → BoardCall
Putting roms block (Ok done) old new = HasPutBlock roms block old new
Putting roms block (Err fault) old new = MissesBoard roms block fault × (new ≡ old)

-- the block of the board, which stays
abbrev pub GivingBlock : (given : List ℕ) → BoardCall
GivingBlock given answer old new = (answer ≡ Ok tt) × IsBlockOf old.state given × (new ≡ old)
