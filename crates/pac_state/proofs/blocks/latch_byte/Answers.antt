use Rattle.pac_state.proofs.Common.{arith, byte_of-bits_of, sym}

pub returns : Rattle.pac_state.proofs.blocks.latch_byte.Goals.returns
returns c = sym (byte_of-bits_of c.args.latch (omega (arith, c.ranges.latch)))
