use Rattle.pac_run_command.proofs.WholeStates.{states-whole}

pub returns : Rattle.pac_run_command.proofs.laws.states_are_whole.Goals.returns
returns g c = states-whole _ _ _ _ _
