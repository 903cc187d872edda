-- Two operands, the second after a comma.
use Rattle.pac_dis.proofs.Common.{arith, common_steps}
use Rattle.pac_dis.proofs.operands.put_both.Goals as goal

pub put_operand-requires-clause-room : goal.put_operand-requires-clause-room
put_operand-requires-clause-room c = grind (arith, common_steps)

pub put_operand-requires-2-clause-room : goal.put_operand-requires-2-clause-room
put_operand-requires-2-clause-room c = grind (arith, common_steps)

pub returns : goal.returns
returns c = grind (arith, common_steps)
