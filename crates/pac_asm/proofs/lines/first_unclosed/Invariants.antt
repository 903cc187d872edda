use Rattle.std.proofs.Common.{length}
use Rattle.pac_asm.proofs.Pairs.{Kept}
use Rattle.pac_asm.proofs.lines.first_unclosed.Given as goal

abbrev pub invariant-loop-line : goal.invariant-loop-line
invariant-loop-line l = Kept l.source l.rest l.pairing

abbrev pub decreases-loop-line : goal.decreases-loop-line
decreases-loop-line l = length l.rest
