use Rattle.pac_board_model.proofs.Resumed.{resumed-runs-end}

pub returns : Rattle.pac_board_model.proofs.laws.resumed.resumed_runs_end.Goals.returns
returns g c = resumed-runs-end
