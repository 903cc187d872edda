-- Law: what is proved of the definitions of Running.antt.
use Rattle.pac_debug_session.specs.Running.{Setting, play_of, run}
use Rattle.pac_board_course.specs.Walk.{Walk}
use Rattle.pac_board_course.specs.BoardView.{BoardView, power_on_board_view}
use Rattle.pac_board_course.specs.Trace.{trace, by_view}
use Rattle.std.specs.Prelude.{ℕ, List, drop, length}
use Rattle.pac_board_course.specs.Output.{Output}

abbrev pub whole_run : Setting → Walk BoardView
whole_run setting = trace (by_view setting.set) (play_of setting.script) (power_on_board_view setting.switches)

-- what the run gives out from an index on to its end
abbrev pub outputs_from : Setting → (from : ℕ) → List Output
outputs_from setting from = drop (length (run setting from).outputs) (whole_run setting).outputs
