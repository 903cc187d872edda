-- Believed: a session: an index into the run, the furthest index that it has been at, breakpoints, and slots that keep an
-- index. Outputs up to the furthest index went to a sink once, in order, or are due.
use Rattle.std.specs.Prelude.{ℕ, ◌==◌, Bool, filter, not}
use Rattle.std.specs.Prelude.{List, [], ◌∷◌, Option, None}
use Rattle.std.specs.List.{list_any}
use Rattle.pac_board_course.specs.Due.{Due}
use Rattle.pac_board_course.specs.State.{nothing_due}
use Rattle.pac_debug_session.specs.Running.{Setting, now_at}

pub record SessionValue : Type 0 where
  -- the run
  pub setting : Setting
  -- where it is in the run, and where it was at the furthest
  pub index : ℕ
  pub furthest : ℕ
  -- the addresses at which `continue` and `frames` rest
  pub breakpoints : List ℕ
  -- the index that each of the four slots keeps, if it is filled
  pub slots : List (Option ℕ)
  -- what the last step gave and no sink has taken yet
  pub due : Due
  -- the steps that the board did since it was made, up to 2^64 - 1, and those of them that the last command did again
  pub made : ℕ
  pub replayed : ℕ

-- whether the processor stands on a breakpoint at an index
abbrev pub breaks_at : SessionValue → ℕ → Bool
breaks_at s index = list_any (λ address. address == (now_at s.setting index).regs.pc) s.breakpoints

abbrev pub most_breakpoints : ℕ
most_breakpoints = 64

-- ---- the beginning

-- a session on such a board, at the beginning of its run
abbrev pub session_at_start : Setting → (made : ℕ) → SessionValue
session_at_start setting made = record {
  setting = setting;
  index = 0;
  furthest = 0;
  breakpoints = [];
  slots = None ∷ None ∷ None ∷ None ∷ [];
  due = nothing_due;
  made = made;
  replayed = 0;
}

-- ---- what is due

-- ---- breakpoints

abbrev pub has_breakpoint : SessionValue → ℕ → Bool
has_breakpoint s address = list_any (λ other. other == address) s.breakpoints

-- a breakpoint is taken away, if it was set
abbrev pub without_breakpoint : SessionValue → ℕ → SessionValue
without_breakpoint s address = record s { breakpoints = filter (λ other. not (other == address)) s.breakpoints }
