pub returns : Rattle.pac_state.proofs.blocks.mask.Goals.returns
returns c = c.bits.ensures tt
