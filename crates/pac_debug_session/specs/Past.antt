-- Believed: what a run has done: its steps, one after another.
use Rattle.std.specs.Prelude.{ℕ, zero, suc, List, [], ◌∷◌, ◌++◌}
use Rattle.circular_buffer.specs.Buffer.{keep_last}
use Rattle.pac_board_course.specs.BoardView.{BoardView}
use Rattle.pac_board_course.specs.Step.{Moment, Next, Goes, Ends}
use Rattle.pac_board_course.specs.PastStep.{PastStep}
use Rattle.pac_debug_session.specs.Running.{Setting, now_at, next_at}

-- a step from a moment: its index, where the processor stood before it, and what it was; a stop is none
abbrev pub past_of : ℕ → Moment BoardView → Next BoardView → List PastStep
past_of index before (Goes now outputs kind) = record { index = index; pc = before.regs.pc; kind = kind } ∷ []
past_of index before (Ends stop) = []

-- the steps before an index, the first first
abbrev pub past_steps : Setting → (index : ℕ) → List PastStep
past_steps setting zero = []
past_steps setting (suc index) = past_steps setting index ++ past_of index (now_at setting index) (next_at setting index)

-- how many of the last steps before an index are told (this profile)
abbrev pub told_step_count : ℕ
told_step_count = 256

abbrev pub told_at : Setting → ℕ → List PastStep
told_at setting index = keep_last told_step_count (past_steps setting index)
