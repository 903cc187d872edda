use Rattle.pac_debug_text.proofs.Common.{Leaves, ◌-◌}
use Rattle.pac_debug_text.proofs.PeekLemmas.{bytes_text}

abbrev pub invariant-loop : Rattle.pac_debug_text.proofs.peek.gather_bytes.Given.invariant-loop
invariant-loop g l =
    Leaves g.W.Out.took l.fn.pending l.fn.output (bytes_text (g.P.Peek.byte_at l.fn.memory) l.fn.at l.fn.count)
    (bytes_text (g.P.Peek.byte_at l.fn.memory) l.next (l.fn.count - l.counter)) l.pending l.output
