use Rattle.pac_board_model.proofs.WalkTimes.{walks-are-timed}

pub returns : Rattle.pac_board_model.proofs.laws.walks.walks_are_timed.Goals.returns
returns g c = walks-are-timed
