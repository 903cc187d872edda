use Rattle.pac_picture.proofs.Places.{repeated-is}

pub returns : Rattle.pac_picture.proofs.size.repeated.Goals.returns
returns g c = repeated-is g.row.N c.args.value
