use Rattle.pac_state.proofs.Framing.{is-block}

pub returns : Rattle.pac_state.proofs.laws.states_have_blocks.Goals.returns
returns c = is-block
