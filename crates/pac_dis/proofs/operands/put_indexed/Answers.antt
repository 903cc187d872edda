-- The text of an indexed place, piece by piece.
use Rattle.pac_dis.proofs.Common.{arith, common_steps}
use Rattle.pac_dis.proofs.operands.put_indexed.Goals as goal

pub put_displacement-requires : goal.put_displacement-requires
put_displacement-requires c = grind (arith, common_steps)

pub push_str-requires-3 : goal.push_str-requires-3
push_str-requires-3 c = grind (arith, common_steps)

pub returns : goal.returns
returns c = grind (arith, common_steps)
