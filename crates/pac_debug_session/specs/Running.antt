-- Believed: the run that a session looks at: the trace of a script on a board from power-on, state by state. A session is
-- a place in it.
use Rattle.std.specs.Prelude.{◌≡◌, ◌<◌, ◌≤◌, ℕ, ◌*◌, ◌/◌, Bool, true, false, ◌&&◌, not, is_none, nat_le, List, length, drop, Option}
use Rattle.std.specs.Prelude.{None, Some}
use Rattle.pac_board_course.specs.Stop.{Stop}
use Rattle.pac_board_course.specs.Stretches.{total_frames, held}
use Rattle.pac_board_course.specs.Stretch.{Stretch}
use Rattle.pac_board_course.specs.RomParts.{Parts}
use Rattle.pac_board_course.specs.BoardView.{BoardView, power_on_board_view}
use Rattle.pac_board_course.specs.Output.{Output}
use Rattle.pac_board_course.specs.Step.{Moment, Next, Goes, Ends, frame_ticks}
use Rattle.pac_board_course.specs.Trace.{Play, by_view, play_step, run_at}
use Rattle.pac_board_course.specs.Walk.{Walk}

-- what a run is determined by: the ROM set, the byte of the DIP switches, and the script
pub record Setting : Type 0 where
  pub set : Parts
  pub switches : ℕ
  pub script : List Stretch

-- what a script has a board play
abbrev pub play_of : List Stretch → Play
play_of script = record { frames = total_frames script; held = held script }

-- the run up to an index, which is the number of its steps, and the whole of it
abbrev pub run : Setting → ℕ → Walk BoardView
run setting index = run_at (by_view setting.set) (play_of setting.script) (power_on_board_view setting.switches) index

-- the moment at an index, and what the next step from a moment comes to
abbrev pub now_at : Setting → ℕ → Moment BoardView
now_at setting index = (run setting index).now

abbrev pub next_from : Setting → Moment BoardView → Next BoardView
next_from setting now = play_step (by_view setting.set) (held setting.script) now

abbrev pub next_at : Setting → ℕ → Next BoardView
next_at setting index = next_from setting (now_at setting index)

-- ---- how far it goes

-- the time of the last frame's blank, at which a run is over
abbrev pub limit : Setting → ℕ
limit setting = frame_ticks * total_frames setting.script

abbrev pub is_late : Setting → ℕ → Bool
is_late setting index = nat_le (limit setting) (now_at setting index).time

-- the stop that the step at an index meets
abbrev pub stop_in : Next BoardView → Option Stop
stop_in (Goes now outputs kind) = None
stop_in (Ends stop) = Some stop

abbrev pub stop_at : Setting → ℕ → Option Stop
stop_at setting index = stop_in (next_at setting index)

-- whether there is a step at an index: the run isn't over, and it meets no stop
abbrev pub goes_at : Setting → ℕ → Bool
goes_at setting index = not (is_late setting index) && is_none (stop_at setting index)

-- the blanks that were met before an index
abbrev pub blanks_at : Setting → ℕ → ℕ
blanks_at setting index = (now_at setting index).time / frame_ticks

-- what the run gives out from one index up to another
abbrev pub outputs_between : Setting → (from index : ℕ) → List Output
outputs_between setting from index = drop (length (run setting from).outputs) (run setting index).outputs

-- ---- the least index

-- the least index, from one on, at which a test is met
pub record IsLeast (test : ℕ → Bool) (from index : ℕ) : Type 0 where
  pub after : from ≤ index
  pub here : test index ≡ true
  pub none_before : (earlier : ℕ) → from ≤ earlier → earlier < index → test earlier ≡ false
