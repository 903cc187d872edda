-- Believed: state files: the texts of states in their ranges. A file is one of these or it isn't taken, and it has one
-- state.
use Rattle.std.specs.Prelude.{◌≡◌, ℕ, ℤ, ◌<◌, ◌^◌, true, ⊤, List, Option, Some, None, FitsSigned}
use Rattle.std.specs.Int.{w16}
use Rattle.pac_board.specs.Regs.{Regs}
use Rattle.pac_board.specs.MemoryView.{IsWellFormed}
use Rattle.pac_board.specs.RomParts.{Parts}
use Rattle.pac_board.specs.State.{BoardState, BoardValue, IsStateInRange}
use Rattle.pac_state.specs.Text.{save_text}
use Rattle.pac_state.specs.Saved.{is_known, upgraded_board}

-- registers of two bytes
pub record AreWords (regs : Regs) : Type 0 where
  pub ix : regs.ix < 2 ^ 16
  pub iy : regs.iy < 2 ^ 16
  pub sp : regs.sp < 2 ^ 16
  pub pc : regs.pc < 2 ^ 16

-- the sample that is due, if one is, has 16 bits
abbrev pub FitsSample : Option ℤ → Type 0
FitsSample None = ⊤
FitsSample (Some sample) = FitsSigned w16 sample

-- A state that a board can have: its memories have their sizes, its words 16 bits, and each field is in its range. What has one
-- byte needs no bound: it stands in the text as it is.
pub record IsState (state : BoardState) : Type 0 where
  pub words : AreWords state.now.regs
  pub memory : IsWellFormed state.now.board.memory
  pub held : state.now.board.memory.held < 2 ^ 16
  pub sample : FitsSample state.due.sample
  pub range : IsStateInRange state

-- ---- files

-- A state file of a set: the text of such a state, in one of the two versions, for a set with this one's digest.
pub record IsFile (set : Parts) (bytes : List ℕ) : Type 0 where
  pub version : ℕ
  pub known : is_known version ≡ true
  pub state : BoardState
  pub is_state : IsState state
  pub text : bytes ≡ save_text version set state

-- the board of a state file of a set
abbrev pub board_of_file : {bytes : List ℕ} → (set : Parts) → IsFile set bytes → BoardValue
board_of_file set file = upgraded_board file.version (record { set = set; state = file.state; made = 0 })

-- ---- laws
