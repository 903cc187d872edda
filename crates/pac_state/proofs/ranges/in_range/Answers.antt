use Rattle.pac_state.proofs.Common.{arith}

pub returns : Rattle.pac_state.proofs.ranges.in_range.Goals.returns
returns c = record {
  words = c.words.ensures;
  memory = record {
    tile = c.sizes.ensures.tile;
    colour = c.sizes.ensures.colour;
    work = c.sizes.ensures.work;
    coordinates = c.sizes.ensures.coordinates;
    registers = c.sizes.ensures.registers;
    nibbles = c.requires.registers;
    count = let below = c.requires.count in omega (arith, below);
  };
  held = c.inputs.ensures;
  sample = c.sample.ensures;
  range = c.requires;
}
