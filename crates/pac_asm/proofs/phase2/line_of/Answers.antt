use Rattle.std.proofs.Common.{arith}
use Rattle.pac_asm.proofs.Filling.{some-content, size-fits}
use Rattle.pac_asm.proofs.phase2.line_of.Goals as goal

pub returns-in-None-clause-placed : goal.returns-in-None-clause-placed
returns-in-None-clause-placed c = grind (arith, some-content)

pub returns-in-Some-clause-placed : goal.returns-in-Some-clause-placed
returns-in-Some-clause-placed c = grind (arith, size-fits)
