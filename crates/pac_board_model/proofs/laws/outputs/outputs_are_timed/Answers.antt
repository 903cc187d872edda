use Rattle.pac_board_model.proofs.Outputs.{outputs-timed}

pub returns : Rattle.pac_board_model.proofs.laws.outputs.outputs_are_timed.Goals.returns
returns c = outputs-timed
