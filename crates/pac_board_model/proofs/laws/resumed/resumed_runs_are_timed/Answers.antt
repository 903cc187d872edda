use Rattle.pac_board_model.proofs.ResumedTimes.{resumed-runs-are-timed}

pub returns : Rattle.pac_board_model.proofs.laws.resumed.resumed_runs_are_timed.Goals.returns
returns g c = resumed-runs-are-timed
