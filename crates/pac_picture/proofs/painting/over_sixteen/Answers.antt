use Rattle.std.proofs.Common.{rules}
use Rattle.pac_picture.proofs.Blended.{blended-at}

pub returns : Rattle.pac_picture.proofs.painting.over_sixteen.Goals.returns
returns c = λ k below. blended-at c.args.numbers.now c.args.below.now k (search rules) (search rules) below
