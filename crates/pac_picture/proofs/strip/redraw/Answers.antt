use Rattle.pac_picture.proofs.Common.{arith, has_marked}
use Rattle.pac_picture.proofs.Strips.{all-drawn}

pub returns : Rattle.pac_picture.proofs.strip.redraw.Goals.returns
returns c = λ x y across down.
    all-drawn c.args.graphics.now c.args.tiles.now c.args.colours.now (has_marked c.args.mask.now) c.loop-place.lines c.loop-place.place
    x y (omega (arith, c.loop-place-test.false)) c.loop-place.invariant across down
