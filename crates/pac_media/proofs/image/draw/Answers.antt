use Rattle.pac_media.proofs.Common.{arith, ppm_of, take_all}
use Rattle.pac_media.proofs.Blocks.{line-more}
use Rattle.pac_media.proofs.image.draw.Goals as goal

pub loop-y-preserved : goal.loop-y-preserved
loop-y-preserved c = grind (arith, line-more)

pub returns-clause-image : goal.returns-clause-image
unfolding ppm_of
returns-clause-image c = grind (arith, take_all)
