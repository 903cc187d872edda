use Rattle.pac_board_model.proofs.Resumed.{stopped-runs-stay}

pub returns : Rattle.pac_board_model.proofs.laws.resumed.stopped_runs_stay.Goals.returns
returns g c = stopped-runs-stay
