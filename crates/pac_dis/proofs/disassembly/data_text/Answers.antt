use Rattle.std.proofs.Common.{arith, length, ap}
use Rattle.pac_dis.proofs.Writings.{length-byte-le}

pub put_byte-requires : Rattle.pac_dis.proofs.disassembly.data_text.Goals.put_byte-requires
put_byte-requires c = omega (arith, length-byte-le c.args.byte, ap length c.push_str.ensures.bytes, ap length c.new-text.ensures)
