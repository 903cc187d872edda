-- Law: laws of a host's calls, each proved on a public function of the crate.
use Rattle.std.specs.Prelude.{◌≡◌, ◌≢◌, ◌≤◌, ℕ, ℤ, ◌+◌, ◌*◌, ◌/◌, None, List, [], ◌∷◌, ◌++◌, take}
use Rattle.pac_board.specs.State.{BoardState, BoardValue, power_on_board, board_after_reset, time_of}
use Rattle.pac_state.specs.Files.{IsFile, board_of_file}
use Rattle.pac_state.specs.Reading.{state_in}
use Rattle.pac_block.specs.declared.ran.PacRan.{PacRan}
use Rattle.pac_block.specs.Host.{set_of_roms, asked_in, board_in, board_holding, board_after_exec, least_asked, most_samples}
use Rattle.pac_block.specs.Host.{HasInit, HasBecome, HasExecuted, HasLoaded}

-- ---- calls, one after another

-- the calls of a host; those that draw or save leave the board as it is
pub data HostCall : Type 0 where
  PowerOn : (switches : ℕ) → HostCall
  ResetNow : HostCall
  HoldInputs : (set clear : ℕ) → HostCall
  LetTimePass : (microseconds : ℕ) → HostCall
  TakeFile : (text : List ℕ) → HostCall

-- a call was done on one block, and left another
abbrev pub IsCallDone : (roms : List ℕ) → HostCall → (old new : List ℕ) → Type 0
IsCallDone roms (PowerOn switches) old new = HasInit roms switches new
IsCallDone roms ResetNow old new = HasBecome board_after_reset old new
IsCallDone roms (HoldInputs set clear) old new = HasBecome (board_holding set clear) old new
IsCallDone roms (LetTimePass microseconds) old new =
    (samples : List ℤ) × (samples_after : List ℤ) × (ran : PacRan)
    × HasExecuted roms old microseconds samples new samples_after ran
IsCallDone roms (TakeFile text) old new = HasLoaded roms text new

abbrev pub AreDone : (roms : List ℕ) → List HostCall → (old new : List ℕ) → Type 0
AreDone roms [] old new = new ≡ old
AreDone roms (call ∷ calls) old new = (between : List ℕ) × IsCallDone roms call old between × AreDone roms calls between new

-- A call was done on one board that is kept: its steps are counted on, and nothing goes through a block.
abbrev pub IsCallOfBoard : HostCall → (old new : BoardValue) → Type 0
IsCallOfBoard (PowerOn switches) old new = new ≡ power_on_board old.set switches
IsCallOfBoard ResetNow old new = new ≡ board_after_reset old
IsCallOfBoard (HoldInputs set clear) old new = new ≡ board_holding set clear old
IsCallOfBoard (LetTimePass microseconds) old new = new ≡ board_after_exec old microseconds
IsCallOfBoard (TakeFile text) old new = (file : IsFile old.set text) × (new ≡ board_of_file old.set file)

abbrev pub AreCallsOfBoard : List HostCall → (old new : BoardValue) → Type 0
AreCallsOfBoard [] old new = new ≡ old
AreCallsOfBoard (call ∷ calls) old new = (between : BoardValue) × IsCallOfBoard call old between × AreCallsOfBoard calls between new

-- Whatever calls are done, the last block has the state of the board of which the same calls were made.
pub record AreOfOneBoard (roms : List ℕ) (calls : List HostCall) (old new : List ℕ) : Type 0 where
  pub board : BoardValue
  pub made : AreCallsOfBoard calls (board_in roms old) board
  pub state : state_in new ≡ board.state

abbrev pub BlocksAreOneBoard : Type 0
BlocksAreOneBoard =
    (roms : List ℕ) (calls : List HostCall) (old new : List ℕ) → AreDone roms calls old new → AreOfOneBoard roms calls old new

-- ---- time

-- what is told of a run's stop: its cause, address and bytes
abbrev pub stop_told : PacRan → PacRan
stop_told ran = record ran { ticks = 0; samples = 0; pictures = 0 }

-- Time that is cut is time at once: the same block, the same samples in the same order, the same stop, and
-- T-states, samples and pictures add up.
pub record IsOneRun (first second whole : PacRan) (first_samples second_samples whole_samples : List ℤ) (parts once : List ℕ) : Type 0 where
  pub block : parts ≡ once
  pub samples : take first.samples first_samples ++ take second.samples second_samples ≡ take whole.samples whole_samples
  pub counts : first.samples + second.samples ≡ whole.samples
  pub pictures : first.pictures + second.pictures ≡ whole.pictures
  pub ticks : first.ticks + second.ticks ≡ whole.ticks
  pub stop : stop_told second ≡ stop_told whole

abbrev pub HostTimeCanBeCut : Type 0
HostTimeCanBeCut =
    (roms block middle parts once : List ℕ) (one other : ℕ) (buffer first_samples more second_samples wide whole_samples : List ℤ)
    (first second whole : PacRan) → HasExecuted roms block one buffer middle first_samples first
    → HasExecuted roms middle other more parts second_samples second
    → HasExecuted roms block (one + other) wide once whole_samples whole
    → IsOneRun first second whole first_samples second_samples whole_samples parts once

-- ---- a stop

-- A call on a block that a stop has left meets that stop at once, whatever time it is for, and gives nothing: block and buffer stay, and no
-- T-state goes by.
pub record IsStoppedStill (first second : PacRan) (left parts : List ℕ) (more second_samples : List ℤ) : Type 0 where
  pub block : parts ≡ left
  pub samples : second_samples ≡ more
  pub told : second ≡ stop_told first

abbrev pub StopsAreMetAgain : Type 0
StopsAreMetAgain =
    (roms block left parts : List ℕ) (one other : ℕ) (buffer first_samples more second_samples : List ℤ) (first second : PacRan)
    → HasExecuted roms block one buffer left first_samples first → first.stop ≢ 0
    → HasExecuted roms left other more parts second_samples second
    → IsStoppedStill first second left parts more second_samples

-- ---- room

-- A board isn't behind where no more time was asked of it than lets it begin a step, and no sample is due.
pub record IsNotBehind (state : BoardState) : Type 0 where
  pub asked : state.asked ≤ least_asked state.now.time
  pub due : state.due.sample ≡ None

-- So it is after power-on and after each call for some time, whether it stopped or not and however far behind it was. A reset and other
-- inputs leave it as far behind as it was, and a state file's board is what the file's state is.
abbrev pub KeepsUp : (roms : List ℕ) → HostCall → (old new : List ℕ) → Type 0
KeepsUp roms (PowerOn switches) old new = IsNotBehind (state_in new)
KeepsUp roms ResetNow old new = IsNotBehind (state_in old) → IsNotBehind (state_in new)
KeepsUp roms (HoldInputs set clear) old new = IsNotBehind (state_in old) → IsNotBehind (state_in new)
KeepsUp roms (LetTimePass microseconds) old new = IsNotBehind (state_in new)
KeepsUp roms (TakeFile text) old new = (file : IsFile (set_of_roms roms) text) → IsNotBehind file.state → IsNotBehind (state_in new)

-- A board that isn't behind gives at most 12 samples for each 125 microseconds, and two more.
pub record RoomIsBounded : Type 0 where
  pub bound : (state : BoardState) (microseconds : ℕ) → IsNotBehind state → most_samples state microseconds ≤ microseconds * 12 / 125 + 2
  pub kept : (roms : List ℕ) (call : HostCall) (old new : List ℕ) → IsCallDone roms call old new → KeepsUp roms call old new

-- A call for one microsecond, of a board that is at its time or past it, makes one step at most.
abbrev pub OneStepAtMost : Type 0
OneStepAtMost =
    (roms block new : List ℕ) (samples samples_after : List ℤ) (ran : PacRan) → HasExecuted roms block 1 samples new samples_after ran
    → time_of (asked_in block) ≤ (state_in block).now.time → (state_in new).now.steps ≤ (state_in block).now.steps + 1
