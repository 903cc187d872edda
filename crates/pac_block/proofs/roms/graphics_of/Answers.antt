use Rattle.pac_block.proofs.Common.{set_of_roms, ◌∙◌}

pub returns : Rattle.pac_block.proofs.roms.graphics_of.Goals.returns
unfolding set_of_roms
returns c = c.new.ensures ∙ (λ i. record {
  tiles = c.chunk.ensures i;
  sprites = c.chunk-2.ensures i;
  lookup = c.chunk-3.ensures i;
})
