use Rattle.pac_picture.proofs.Blended.{piece-put}

pub returns : Rattle.pac_picture.proofs.painting.put_numbers.Goals.returns
returns c = λ x across.
    piece-put c.args.line.now c.args.numbers.now c.args.start x c.told-line c.told-numbers c.requires across
