use Rattle.std.proofs.Common.{arith}
use Rattle.pac_asm_operation.proofs.Found.{instruction-fault, instruction-placed, instruction-sized}
use Rattle.pac_asm_operation.proofs.operation.Operation.instruction.Goals as goal

pub returns-in-Err-clause-exact : goal.returns-in-Err-clause-exact
returns-in-Err-clause-exact g c = grind (arith, instruction-fault)

pub returns-in-Ok-clause-exact : goal.returns-in-Ok-clause-exact
returns-in-Ok-clause-exact g c = grind (arith, instruction-placed)

pub returns-in-Ok-clause-size : goal.returns-in-Ok-clause-size
returns-in-Ok-clause-size g c = grind (arith, instruction-sized)
