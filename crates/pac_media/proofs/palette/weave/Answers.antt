use Rattle.pac_media.proofs.Pixels.{woven-by-parts}

pub returns : Rattle.pac_media.proofs.palette.weave.Goals.returns
returns c = woven-by-parts c.args.red c.args.green c.args.blue c.fits-red.0 c.fits-green.0 c.fits-blue.0
