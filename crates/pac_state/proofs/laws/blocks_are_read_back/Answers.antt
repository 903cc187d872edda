use Rattle.pac_state.proofs.Framing.{block-again}

pub returns : Rattle.pac_state.proofs.laws.blocks_are_read_back.Goals.returns
returns c = block-again
