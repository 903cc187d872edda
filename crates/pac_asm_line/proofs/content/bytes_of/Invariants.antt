use Rattle.pac_asm_line.proofs.Common.{gathered_bytes, gathered_so_far, joined_bytes, length, map, part_bytes, part_of_tokens, parts_after}
use Rattle.pac_asm_line.proofs.Common.{parts_of_operands, ◌≡◌}
use Rattle.pac_asm_line.proofs.content.bytes_of.Given as goal

abbrev pub invariant-loop-rest : goal.invariant-loop-rest
invariant-loop-rest g l =
    joined_bytes (gathered_so_far l.found)
    (gathered_bytes (part_bytes (g.S.SymbolLookup.lookup l.symbols) l.here) (map part_of_tokens (parts_after l.rest)))
    ≡ gathered_bytes (part_bytes (g.S.SymbolLookup.lookup l.symbols) l.here) (parts_of_operands l.fn.operands)

abbrev pub decreases-loop-rest : goal.decreases-loop-rest
decreases-loop-rest g l = length (parts_after l.rest)
