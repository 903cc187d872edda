use Rattle.pac_board.proofs.Pieces.{steps-done-again}

pub returns : Rattle.pac_board.proofs.laws.steps_are_done_again.Goals.returns
returns c = steps-done-again
