-- The colours of a palette backwards, one by one.
use Rattle.pac_block.proofs.Common.{ap, coloured, map, reverse, tabulate}

pub returns : Rattle.pac_block.proofs.pixels.Channels.backwards.Goals.returns
unfolding coloured tabulate
returns c = ap (map reverse) c.self.view_is
