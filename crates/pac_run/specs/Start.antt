-- Believed: the board that a run begins with: that of power-on, or the one of a state file, which a run may begin with where it
-- stands between two frames (this profile).
use Rattle.std.specs.Prelude.{◌≡◌, ℕ, ◌+◌, ◌*◌, ◌%◌, Bool, not, ◌&&◌, ◌||◌, nat_le, if◌then◌else◌, is_some}
use Rattle.std.specs.Prelude.{List, Option, None, Some}
use Rattle.pac_board_course.specs.Course.{frame_microseconds}
use Rattle.pac_board_course.specs.RomParts.{Parts}
use Rattle.pac_board_course.specs.State.{BoardState, BoardValue, latest, most_asked, power_on_board}
use Rattle.pac_board_course.specs.Step.{frame_ticks, sample_ticks}
use Rattle.pac_board_course.specs.Stretch.{Stretch}
use Rattle.pac_board_course.specs.Stretches.{total_frames}
use Rattle.pac_board_course.specs.Trace.{frames_gone}
use Rattle.pac_state.specs.Files.{IsFile, board_of_file}
use Rattle.pac_state.specs.Saved.{RefusesFile}
use Rattle.pac_state.specs.declared.fault.LoadFault.TheVariants.{NoMemory}
use Rattle.pac_run.specs.declared.fault.StateFault.{StateFault}
use Rattle.pac_run.specs.declared.fault.StateFault.TheVariants.{File, Midst, Limit}

-- Nothing is due, and no sample has been given since a frame's blank. There each run ends that meets no stop, and each frame after it
-- has all of its samples and lines.
abbrev pub is_between_frames : BoardState → Bool
is_between_frames state =
    not (is_some state.due.sample || state.due.picture) && not (nat_le sample_ticks (state.now.time % frame_ticks))

-- the board's time, and what may be asked of it, have room for so many frames more
abbrev pub has_room : BoardState → ℕ → Bool
has_room state frames =
    nat_le (frame_ticks * (frames_gone state.now + frames)) latest && nat_le (state.asked + frame_microseconds * frames) most_asked

-- V7, V8: what keeps a run of so many frames from beginning there
abbrev pub start_fault : BoardState → ℕ → Option StateFault
start_fault state frames =
    if not (is_between_frames state) then Some Midst
    else if not (has_room state frames) then Some Limit
    else None

-- the board of a state file of the set, with which a run of this script can begin; a file has one state
pub record IsResumable (set : Parts) (script : List Stretch) (bytes : List ℕ) (board : BoardValue) : Type 0 where
  pub file : IsFile set bytes
  pub board_is : (file : IsFile set bytes) → board ≡ board_of_file set file
  pub begins : start_fault board.state (total_frames script) ≡ None

-- the board that a run begins with
abbrev pub IsFirstBoard : Parts → (dip : ℕ) → List Stretch → (from : Option (List ℕ)) → BoardValue → Type 0
IsFirstBoard set dip script None board = board ≡ power_on_board set dip
IsFirstBoard set dip script (Some bytes) board = IsResumable set script bytes board

-- a state file of the set, with whose board a run of this script can't begin, and why
pub record IsNoStart (set : Parts) (script : List Stretch) (bytes : List ℕ) (fault : StateFault) : Type 0 where
  pub file : IsFile set bytes
  pub fault_is : start_fault (board_of_file set file).state (total_frames script) ≡ Some fault

-- why there is no board to begin with: bytes that are no state file of the set, or a state file with which no run begins
abbrev pub RefusesBytes : Parts → List Stretch → List ℕ → StateFault → Type 0
RefusesBytes set script bytes (File NoMemory) = ⊥
RefusesBytes set script bytes (File fault) = RefusesFile set bytes fault
RefusesBytes set script bytes fault = IsNoStart set script bytes fault

abbrev pub RefusesState : Parts → List Stretch → (from : Option (List ℕ)) → StateFault → Type 0
RefusesState set script None fault = ⊥
RefusesState set script (Some bytes) fault = RefusesBytes set script bytes fault
