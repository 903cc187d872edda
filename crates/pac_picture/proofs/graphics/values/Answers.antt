use Rattle.pac_picture.proofs.Common.{rules, tabulate}
use Rattle.pac_picture.proofs.Pixels.{value-at}

pub returns : Rattle.pac_picture.proofs.graphics.values.Goals.returns
unfolding tabulate
returns c = λ k below. value-at c.args.bytes k (search rules) below
