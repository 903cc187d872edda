use Rattle.std.proofs.Common.{rules}
use Rattle.pac_picture.proofs.Decoded.{swizzle-fits, swizzled-at}
use Rattle.pac_picture.proofs.graphics.picked.Goals as goal

pub swizzle : goal.swizzle
swizzle c = swizzle-fits c.args.places (search rules) c.requires

pub returns : goal.returns
returns c = λ k below. swizzled-at c.args.bytes c.args.places (search rules) c.requires k below
