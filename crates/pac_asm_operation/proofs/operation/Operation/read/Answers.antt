use Rattle.std.proofs.Common.{arith}
use Rattle.pac_asm_operation.proofs.Found.{read-fit}

pub returns : Rattle.pac_asm_operation.proofs.operation.Operation.read.Goals.returns
returns c = let named = c.rows_named-named.ensures in grind (arith, read-fit)
