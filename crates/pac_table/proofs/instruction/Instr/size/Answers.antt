use Rattle.std.proofs.Common.{arith}
use Rattle.pac_table.proofs.Lengths.{parts-le}

pub returns-clause-at_most : Rattle.pac_table.proofs.instruction.Instr.size.Goals.returns-clause-at_most
returns-clause-at_most c = grind (arith, parts-le)
