use Rattle.std.proofs.Common.{arith}
use Rattle.pac_media.proofs.Blocks.{part-same}

pub returns-else-not-are_same : Rattle.pac_media.proofs.image.redraw_part.Goals.returns-else-not-are_same
returns-else-not-are_same c = grind (arith, part-same)
