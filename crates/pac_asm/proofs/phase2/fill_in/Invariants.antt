use Rattle.pac_asm.proofs.Common.{length, lines}
use Rattle.pac_asm.proofs.Filling.{Filling}
use Rattle.pac_asm.proofs.phase2.fill_in.Given as goal

abbrev pub invariant-loop-line : goal.invariant-loop-line
invariant-loop-line l = Filling l.source (lines l.rest) l.symbols l.places l.left l.number l.filled.items

abbrev pub decreases-loop-line : goal.decreases-loop-line
decreases-loop-line l = length l.rest
