use Rattle.pac_block.specs.Host.{set_of_roms}

pub returns : Rattle.pac_block.proofs.roms.colours_of.Goals.returns
unfolding set_of_roms
returns c = c.chunk.ensures
