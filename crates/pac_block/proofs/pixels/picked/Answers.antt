use Rattle.pac_block.proofs.Woven.{picks, picked-is}
use Rattle.pac_block.proofs.pixels.picked.Goals as goal

pub swizzle : goal.swizzle
swizzle c = picks c.args.numbers c.fits-numbers.0 c.requires

pub returns : goal.returns
returns c = picked-is c.args.table.now c.args.numbers c.fits-numbers.0 c.requires
