use Rattle.pac_board_model.proofs.ResumedTimes.{resumed-runs-have-their-frames}

pub returns : Rattle.pac_board_model.proofs.laws.resumed.resumed_runs_have_their_frames.Goals.returns
returns g c = resumed-runs-have-their-frames
