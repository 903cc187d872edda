use Rattle.std.proofs.lemmas.Bool.Decides.{nat_tests}
use Rattle.pac_media.proofs.Common.{arith}
use Rattle.pac_media.proofs.Blocks.{all-kept}

pub returns : Rattle.pac_media.proofs.image.redraw_line.Goals.returns
returns c = grind (arith, nat_tests, all-kept, c.loop-part-test.false, c.loop-part.invariant, c.loop-part.invariant.drawn)
