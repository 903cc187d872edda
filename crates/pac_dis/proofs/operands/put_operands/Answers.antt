use Rattle.std.proofs.Common.{arith}
use Rattle.pac_dis.proofs.Writings.{shows-each}

pub put_both-requires-clause-shown : Rattle.pac_dis.proofs.operands.put_operands.Goals.put_both-requires-clause-shown
put_both-requires-clause-shown c = grind (arith, shows-each)
