use Rattle.std.proofs.Common.{rules}
use Rattle.pac_picture.proofs.Strips.{upper-at, lower-at}
use Rattle.pac_picture.proofs.strip.joined.Goals as goal

pub returns-clause-upper : goal.returns-clause-upper
returns-clause-upper c = λ x below. upper-at c.args.left.now c.args.right.now x (search rules) below

pub returns-clause-lower : goal.returns-clause-lower
returns-clause-lower c = λ x below. lower-at c.args.left.now c.args.right.now x (search rules) below
