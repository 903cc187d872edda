use Rattle.pac_board.proofs.Pieces.{time-cut}

pub returns : Rattle.pac_board.proofs.laws.time_can_be_cut.Goals.returns
returns c = time-cut
