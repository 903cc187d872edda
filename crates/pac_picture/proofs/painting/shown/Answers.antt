use Rattle.std.proofs.Common.{rules}
use Rattle.pac_picture.proofs.Blended.{flipped-at}

pub returns-then-flip : Rattle.pac_picture.proofs.painting.shown.Goals.returns-then-flip
returns-then-flip c = λ k below. rw c.if-flip.true (flipped-at c.args.line.now k (search rules) below)
