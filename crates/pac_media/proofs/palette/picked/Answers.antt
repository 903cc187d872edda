use Rattle.pac_media.proofs.Pixels.{picks, picked-is}
use Rattle.pac_media.proofs.palette.picked.Goals as goal

pub swizzle : goal.swizzle
swizzle c = picks c.args.numbers c.fits-numbers.0 c.requires

pub returns : goal.returns
returns c = picked-is c.args.plane.now c.args.numbers c.fits-numbers.0 c.requires
