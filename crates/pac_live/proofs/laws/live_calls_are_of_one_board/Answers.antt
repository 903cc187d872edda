use Rattle.pac_live.proofs.LiveBoards.{live-calls-are-of-one-board}

pub returns : Rattle.pac_live.proofs.laws.live_calls_are_of_one_board.Goals.returns
returns c = live-calls-are-of-one-board
