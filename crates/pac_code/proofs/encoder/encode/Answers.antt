use Rattle.std.proofs.Common.{arith}
use Rattle.pac_code.proofs.RoundTrip.{room-for-opcode}

pub push-requires : Rattle.pac_code.proofs.encoder.encode.Goals.push-requires
push-requires c = grind (arith, room-for-opcode)
