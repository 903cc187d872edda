use Rattle.std.proofs.Common.{arith}
use Rattle.pac_lex.proofs.TextLaws.{other-at, doubled-at}
use Rattle.pac_lex.proofs.quote.closing.Goals as goal

pub loop-at-preserved-then-bytes-at-ne39 : goal.loop-at-preserved-then-bytes-at-ne39
loop-at-preserved-then-bytes-at-ne39 c = grind (arith, other-at)

pub loop-at-preserved : goal.loop-at-preserved
loop-at-preserved c = grind (arith, doubled-at)
