use Rattle.std.proofs.Common.{arith}
use Rattle.pac_asm_line.proofs.Parts.{joined-assoc}

pub loop-rest-preserved : Rattle.pac_asm_line.proofs.content.words_of.Goals.loop-rest-preserved
loop-rest-preserved g c = grind (arith, joined-assoc, c.put_word.ensures, c.next_part.ensures, c.loop-rest.invariant)
