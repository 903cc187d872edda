-- The parts of these ROMs, one by one.
use Rattle.pac_block.specs.Host.{set_of_roms}
use Rattle.pac_block.proofs.roms.parts.Goals as goal

pub returns-clause-set : goal.returns-clause-set
unfolding set_of_roms
returns-clause-set c = λ i. record {
  program = c.part-program.ensures.bytes i;
  tiles = c.part.ensures.bytes i;
  sprites = c.part-2.ensures.bytes i;
  colours = c.part-3.ensures.bytes i;
  lookup = c.part-4.ensures.bytes i;
  wave = c.part-5.ensures.bytes i;
}

pub returns-clause-whole : goal.returns-clause-whole
returns-clause-whole c = record {
  program = c.part-program.ensures.size;
  tiles = c.part.ensures.size;
  sprites = c.part-2.ensures.size;
  colours = c.part-3.ensures.size;
  lookup = c.part-4.ensures.size;
  wave = c.part-5.ensures.size;
}
