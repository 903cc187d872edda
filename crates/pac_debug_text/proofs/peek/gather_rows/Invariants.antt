use Rattle.pac_debug_text.proofs.Common.{Leaves, memory_text}
use Rattle.pac_debug_text.proofs.peek.gather_rows.Given as goal

abbrev pub invariant-loop-left : goal.invariant-loop-left
invariant-loop-left g l =
    Leaves g.W.Out.took l.fn.pending l.fn.output (memory_text (g.P.Peek.byte_at l.fn.memory) l.fn.at l.fn.count)
    (memory_text (g.P.Peek.byte_at l.fn.memory) l.next l.left) l.pending l.output

abbrev pub decreases-loop-left : goal.decreases-loop-left
decreases-loop-left g l = l.left
