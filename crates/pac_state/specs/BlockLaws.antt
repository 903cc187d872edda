-- Law: what is proved of the definitions of Block.antt.
use Rattle.pac_board.specs.State.{BoardState}
use Rattle.pac_state.specs.Files.{IsState}
use Rattle.pac_state.specs.Reading.{state_in}
use Rattle.pac_state.specs.Block.{block_text, IsBlock}
use Rattle.std.specs.Prelude.{◌≡◌}

-- Reading a state back out of its block gives the state.
abbrev pub BlocksAreReadBack : Type 0
BlocksAreReadBack = (state : BoardState) → IsState state → state_in (block_text state) ≡ state

-- What is written of a state is a block, so it is taken again.
abbrev pub StatesHaveBlocks : Type 0
StatesHaveBlocks = (state : BoardState) → IsState state → IsBlock (block_text state)
