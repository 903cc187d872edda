use Rattle.pac_asm.proofs.Common.{length, lines, ◌+◌, ◌≡◌}

abbrev pub invariant-loop : Rattle.pac_asm.proofs.lines.has_too_many_lines.Given.invariant-loop
invariant-loop l = l.counter + length (lines l.rest) ≡ length (lines l.source)
