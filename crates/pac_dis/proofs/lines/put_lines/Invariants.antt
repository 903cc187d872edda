use Rattle.pac_dis.proofs.Common.{Leaves, disassembly, length, lines_after, ◌<◌}
use Rattle.pac_dis.proofs.lines.put_lines.Given as goal

abbrev pub invariant-loop-rest : goal.invariant-loop-rest
invariant-loop-rest g l =
    (l.at < 65536)
    × Leaves g.W.Out.took l.fn.pending l.fn.file (disassembly l.fn.bytes) (lines_after 0 l.at l.rest) l.pending l.file

abbrev pub decreases-loop-rest : goal.decreases-loop-rest
decreases-loop-rest g l = length l.rest
