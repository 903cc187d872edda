use Rattle.pac_asm.proofs.Common.{arith, length-reverse, length-take}

pub returns-clause-room : Rattle.pac_asm.proofs.condition.Conditions.pop.Goals.returns-clause-room
returns-clause-room c = grind (arith, length-reverse, length-take)
