use Rattle.std.proofs.Common.{arith}
use Rattle.pac_asm.proofs.Pairs.{kept, begins}
use Rattle.pac_asm.proofs.lines.first_unclosed.Goals as goal

pub loop-line-init : goal.loop-line-init
loop-line-init c = begins c.args.source.now

pub loop-line-preserved : goal.loop-line-preserved
loop-line-preserved c = grind (arith, kept)
