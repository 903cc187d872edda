use Rattle.pac_state.proofs.Again.{state-again}

pub returns : Rattle.pac_state.proofs.laws.states_are_read_back.Goals.returns
returns c = state-again
