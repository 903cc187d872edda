use Rattle.pac_asm.proofs.Common.{length, lines}
use Rattle.pac_asm.proofs.Laying.{Laid}
use Rattle.pac_asm.proofs.phase1.take_lines.Given as goal

abbrev pub invariant-loop-line : goal.invariant-loop-line
invariant-loop-line l = Laid l.fn.standing l.source (lines l.rest) l.unclosed l.above l.standing

abbrev pub decreases-loop-line : goal.decreases-loop-line
decreases-loop-line l = length l.rest
