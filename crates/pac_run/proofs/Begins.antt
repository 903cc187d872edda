-- A board with which a run begins: nothing is due, and its frames fit.
use Rattle.pac_run.proofs.Common.{BoardState, BoardValue, Bool, Err, IsFile, IsFirstBoard, IsResumable, IsStarted, IsState, Limit, List}
use Rattle.pac_run.proofs.Common.{LoadFault, Midst, None, Option, Parts, RefusesBytes, RefusesFile, Some, StartsWith, StateFault, Stretch}
use Rattle.pac_run.proofs.Common.{arith, board_of_file, frame_microseconds, frame_ticks, has_room, if◌then◌else◌, is_between_frames, latest}
use Rattle.pac_run.proofs.Common.{most_asked, most_frames, nat_le, nat_tests, not, power-on-board, power_on_board, refl, refusal_told}
use Rattle.pac_run.proofs.Common.{rules, start_fault, total_frames, true, ℕ, ◌*◌, ◌+◌, ◌/◌, ◌≡◌, ◌≤◌}

-- ---- where nothing keeps a run from beginning

no-fault : (between room : Bool)
    → ◌≡◌ {A = Option StateFault} (if not between then Some Midst else if not room then Some Limit else None) None
    → (between ≡ true) × (room ≡ true)
no-fault between room none = search rules

module _ (state : BoardState) (frames : ℕ) (begins : start_fault state frames ≡ None) where
  pub tests : (is_between_frames state ≡ true) × (has_room state frames ≡ true)
  tests = no-fault (is_between_frames state) (has_room state frames) begins

  rooms : (nat_le (frame_ticks * (state.now.time / frame_ticks + frames)) latest ≡ true)
      × (nat_le (state.asked + frame_microseconds * frames) most_asked ≡ true)
  rooms = search rules

  pub time-fits : frame_ticks * (state.now.time / frame_ticks + frames) ≤ latest
  time-fits = let e = rooms.0 in grind (arith, nat_tests)

  pub asked-fits : state.asked + frame_microseconds * frames ≤ most_asked
  asked-fits = let e = rooms.1 in grind (arith, nat_tests)

-- ---- what is told where there is no board

pub unloaded : (set : Parts) (script : List Stretch) (bytes : List ℕ) (fault : LoadFault) → RefusesFile set bytes fault
    → StartsWith set script bytes (Err (refusal_told fault))
unloaded set script bytes fault refuses = search rules

pub no-start : (set : Parts) (script : List Stretch) (bytes : List ℕ) (board : BoardValue) (fault : StateFault) (file : IsFile set bytes)
    → ((file : IsFile set bytes) → board ≡ board_of_file set file) → start_fault board.state (total_frames script) ≡ Some fault
    → RefusesBytes set script bytes fault
no-start set script bytes board fault file is faulty = search rules

-- ---- the two ways to begin

pub taken-up : (set : Parts) (script : List Stretch) (bytes : List ℕ) (board : BoardValue) → IsResumable set script bytes board
    → IsState board.state → IsStarted (IsResumable set script bytes) set script board
taken-up set script bytes board first holds = search rules

pub from-power-on : (set : Parts) (dip : ℕ) (script : List Stretch) (board : BoardValue) → board ≡ power_on_board set dip
    → total_frames script ≤ most_frames → IsStarted (IsFirstBoard set dip script None) set script board
from-power-on set dip script board is short =
    rw is (record {
      first = refl;
      set_is = refl;
      holds = power-on-board dip;
      due = refl;
      time = omega (arith, short);
      asked = omega (arith, short);
    })
