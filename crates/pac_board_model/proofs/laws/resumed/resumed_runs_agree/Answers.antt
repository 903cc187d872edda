use Rattle.pac_board_model.proofs.Agreed.{resumed-runs-agree}

pub returns : Rattle.pac_board_model.proofs.laws.resumed.resumed_runs_agree.Goals.returns
returns c = resumed-runs-agree
