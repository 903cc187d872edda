-- For proofs: what proofs say of the definitions of Standing.antt.
use Rattle.pac_map.specs.RomParts.{Parts}
use Rattle.pac_board_model.specs.Step.{Moment}
pub use Rattle.pac_machine.specs.Standing.{now_after}
use Rattle.pac_board_model.specs.BoardView.{BoardView}

-- what makes the steps: the ROM set, and the moment at which registers, memory, voices and picture stand
pub record BoardStanding : Type 0 where
  pub set : Parts
  pub now : Moment BoardView
