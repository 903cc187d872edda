-- Law: the calls of a live board are the host calls of the one board, proved on a public function of the crate.
use Rattle.std.specs.Prelude.{◌≡◌, ℕ, ℤ, List, Ok}
use Rattle.pac_board.specs.State.{BoardValue, board_after_reset}
use Rattle.pac_live.specs.declared.live.PacLive.{PacLive}
use Rattle.pac_block.specs.Host.{set_of_roms, board_holding}
use Rattle.pac_block.specs.HostLaws.{HostCall, PowerOn, ResetNow, HoldInputs, LetTimePass, TakeFile, IsCallOfBoard}
use Rattle.pac_live.specs.Live.{Becoming, HasOpened, Lives}
use Rattle.pac_live.specs.LiveFiles.{Loading}
use Rattle.pac_live.specs.LiveTime.{Executing}

-- a call was done on a live board; one that opens its handle has the board's ROMs
abbrev pub IsLiveCallDone : HostCall → (old new : PacLive) → Type 0
IsLiveCallDone (PowerOn switches) old new = (roms : List ℕ) × HasOpened roms switches old new × (set_of_roms roms ≡ old.board.set)
IsLiveCallDone ResetNow old new = Lives (Unit {0}) (Becoming board_after_reset) (Ok tt) old new
IsLiveCallDone (HoldInputs set clear) old new = Lives (Unit {0}) (Becoming (board_holding set clear)) (Ok tt) old new
IsLiveCallDone (LetTimePass microseconds) old new =
    (samples : List ℤ) × (samples_after : List ℤ) × (told : List ℕ) × (told_after : List ℕ)
    × Lives ((samples_after ≡ samples) × (told_after ≡ told)) (Executing microseconds samples samples_after told told_after) (Ok tt) old new
IsLiveCallDone (TakeFile text) old new = Lives (Unit {0}) (Loading text) (Ok tt) old new

-- The call of the one board leaves the same set and state; a live board counts its steps on where a file is taken.
pub record IsOfOneBoard (call : HostCall) (old new : PacLive) : Type 0 where
  pub board : BoardValue
  pub made : IsCallOfBoard call old.board board
  pub same : new.board ≡ record board { made = new.board.made }

abbrev pub LiveCallsAreOfOneBoard : Type 0
LiveCallsAreOfOneBoard = (call : HostCall) (old new : PacLive) → IsLiveCallDone call old new → IsOfOneBoard call old new
