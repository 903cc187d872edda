use Rattle.pac_block.proofs.OneBoard.{blocks-are-one-board}

pub returns : Rattle.pac_block.proofs.laws.blocks_are_one_board.Goals.returns
returns c = blocks-are-one-board
