-- Believed: the block in which a host keeps a board's state (this profile): the text of a state file of the version that is
-- written, with 20 zeros in place of each of its digests. The ROM set is handed in beside it.
use Rattle.std.specs.Prelude.{◌≡◌, ℕ, List, ◌++◌, replicate}
use Rattle.pac_board.specs.State.{BoardState, IsStateInRange}
use Rattle.pac_state.specs.Text.{body, written_version}
use Rattle.pac_state.specs.Reading.{state_in}

-- what stands where a file has a digest
abbrev pub no_digest : List ℕ
no_digest = replicate 20 0

-- the block of a state
unfoldable pub block_text : BoardState → List ℕ
block_text state = body written_version no_digest state ++ no_digest

-- bytes that are the block of a state, one that a board can have
pub record IsBlock (bytes : List ℕ) : Type 0 where
  pub in_range : IsStateInRange (state_in bytes)
  pub text : bytes ≡ block_text (state_in bytes)

-- ---- laws
