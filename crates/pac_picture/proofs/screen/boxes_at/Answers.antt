use Rattle.std.proofs.Common.{arith}
use Rattle.pac_picture.proofs.Boxes.{box-bit}

pub returns : Rattle.pac_picture.proofs.screen.boxes_at.Goals.returns
returns c = box-bit c.args.coordinates.now c.args.y c.requires.coordinates c.requires.y
    (λ k. omega (arith, c.type_inv.coordinates k))
