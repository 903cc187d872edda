use Rattle.pac_debug_text.proofs.Common.{Leaves, instructions_text, ◌-◌}

abbrev pub invariant-loop : Rattle.pac_debug_text.proofs.peek.gather_instructions.Given.invariant-loop
invariant-loop g l =
    Leaves g.W.Out.took l.fn.pending l.fn.output (instructions_text (g.P.Peek.byte_at l.fn.memory) l.fn.count l.fn.at)
    (instructions_text (g.P.Peek.byte_at l.fn.memory) (l.fn.count - l.counter) l.next) l.pending l.output
