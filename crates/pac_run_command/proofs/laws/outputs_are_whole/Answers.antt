use Rattle.pac_run_command.proofs.WholeOutputs.{outputs-whole}

pub returns : Rattle.pac_run_command.proofs.laws.outputs_are_whole.Goals.returns
returns g c = outputs-whole _ _ _ _ _ _ _
