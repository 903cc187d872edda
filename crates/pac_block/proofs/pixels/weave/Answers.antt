use Rattle.pac_block.proofs.Woven.{woven-by-halves}

pub returns : Rattle.pac_block.proofs.pixels.weave.Goals.returns
returns c = woven-by-halves c.args.red c.args.green c.args.blue c.fits-red.0 c.fits-green.0 c.fits-blue.0
