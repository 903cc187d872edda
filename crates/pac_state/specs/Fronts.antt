-- For proofs: what a block begins with, up to its picture.
use Rattle.std.specs.Prelude.{◌≡◌, ℕ, List}
use Rattle.pac_board.specs.State.{BoardState}
use Rattle.pac_state.specs.Block.{no_digest}
use Rattle.pac_state.specs.Files.{IsState}
use Rattle.pac_state.specs.Text.{file_front, written_version}

-- the bytes before the picture
abbrev pub front_size : ℕ
front_size = 3224

-- what the block of this state, one that a board can have, begins with
pub record IsFrontOf (state : BoardState) (front : List ℕ) : Type 0 where
  pub is_state : IsState state
  pub text : front ≡ file_front written_version no_digest state
