use Rattle.pac_picture.proofs.Blended.{piece-read}

pub returns : Rattle.pac_picture.proofs.painting.sixteen_of.Goals.returns
returns c = λ k below. piece-read c.args.line.now c.args.start k c.requires below
