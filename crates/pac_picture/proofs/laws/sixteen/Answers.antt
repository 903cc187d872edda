use Rattle.pac_picture.proofs.Masks.{differs-bit}

pub returns : Rattle.pac_picture.proofs.laws.sixteen.Goals.returns
returns c = λ k below. differs-bit c.args.now.now c.args.shadow.now c.args.from c.args.start k c.requires.now c.requires.shadow below
