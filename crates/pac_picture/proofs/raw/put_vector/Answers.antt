use Rattle.pac_picture.proofs.Common.{arith, ◌+◌}
use Rattle.std.proofs.lemmas.Simd.{take_more_put_chunk}

pub returns-clause-text : Rattle.pac_picture.proofs.raw.put_vector.Goals.returns-clause-text
returns-clause-text c =
    take_more_put_chunk c.args.at c.args.to.now c.args.bytes (c.args.at + 16) (omega (arith, c.fits-bytes.0)) c.requires
