pub returns : Rattle.pac_state.proofs.reading.inputs_of.Goals.returns
returns c = c.from_bits_retain.ensures tt
