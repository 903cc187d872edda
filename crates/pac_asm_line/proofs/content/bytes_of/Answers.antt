use Rattle.std.proofs.Common.{arith}
use Rattle.pac_asm_line.proofs.Parts.{joined-assoc}

pub loop-rest-preserved : Rattle.pac_asm_line.proofs.content.bytes_of.Goals.loop-rest-preserved
loop-rest-preserved g c = grind (arith, joined-assoc, c.put_part.ensures, c.next_part.ensures, c.loop-rest.invariant)
