use Rattle.std.proofs.Common.{arith, rules, ◌*◌}
use Rattle.pac_picture.proofs.Decoded.{sixteen-read}

pub returns : Rattle.pac_picture.proofs.graphics.tile_bytes.Goals.returns
returns c = λ k below.
    sixteen-read c.args.rom.now (16 * c.args.code) k (search rules) (omega (arith, c.ranges.code.fits)) below
