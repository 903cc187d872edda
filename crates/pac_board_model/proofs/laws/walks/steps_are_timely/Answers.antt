use Rattle.pac_board_model.proofs.Walks.{steps-are-timely}

pub returns : Rattle.pac_board_model.proofs.laws.walks.steps_are_timely.Goals.returns
returns g c = steps-are-timely
