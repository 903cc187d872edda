use Rattle.std.proofs.Common.{rules}
use Rattle.pac_picture.proofs.Pixels.{numbers-at}

pub returns : Rattle.pac_picture.proofs.graphics.numbers.Goals.returns
returns c = numbers-at c.args.lookup.now c.args.colour (search rules)
