-- Blocks whose fronts are written over.
use Rattle.pac_block.proofs.Common.{BoardState, BoardValue, HasBecome, HasFront, IsBlock, IsBlockOf, IsFrontOf, IsState, List, ap}
use Rattle.pac_block.proofs.Common.{block-again, block_text, board_in, drop, file_size, front-changed, is-block, length, set_of_roms}
use Rattle.pac_block.proofs.Common.{state_in, subst, sym, ℕ, ◌++◌, ◌∙◌, ◌≡◌}

-- the text of a state is its block
pub block-of : (state : BoardState) (new : List ℕ) → IsState state → new ≡ block_text state → IsBlockOf state new
block-of state new is text = record {
  text = text;
  state_is = ap state_in text ∙ block-again state is;
  block_is = subst IsBlock (sym text) (is-block state is);
}

-- a block's board becomes another one with the front of that
pub becomes-front : (becomes : BoardValue → BoardValue) (old front new : List ℕ) → length old ≡ file_size → HasFront becomes old front
    → new ≡ front ++ drop 3224 old → HasBecome becomes old new
becomes-front becomes old front new size has written = record {
  block = has.is_block;
  board = λ roms.
      let state = (becomes (board_in roms old)).state in
      block-of state new (has.front_is roms).is_state
      (written ∙ front-changed old front state size has.is_block (has.front_is roms) (has.lines roms));
}

-- a front of what becomes of a board in the state of a block
pub front-of : (becomes : BoardValue → BoardValue) (roms block front : List ℕ) {state : BoardState} → state ≡ state_in block
    → IsFrontOf (becomes (record { set = set_of_roms roms; state = state; made = 0 })).state front
    → IsFrontOf (becomes (board_in roms block)).state front
front-of becomes roms block front same is = rw same at is
