use Rattle.pac_asm_line.proofs.Common.{gathered_bytes, gathered_so_far, joined_bytes, length, map, parts_after, spelled_tree, trees_of}
use Rattle.pac_asm_line.proofs.Common.{word_bytes, ◌≡◌}
use Rattle.pac_asm_line.proofs.content.words_of.Given as goal

abbrev pub invariant-loop-rest : goal.invariant-loop-rest
invariant-loop-rest g l =
    joined_bytes (gathered_so_far l.found)
    (gathered_bytes (word_bytes (g.S.SymbolLookup.lookup l.symbols) l.here) (map spelled_tree (parts_after l.rest)))
    ≡ gathered_bytes (word_bytes (g.S.SymbolLookup.lookup l.symbols) l.here) (trees_of l.fn.operands)

abbrev pub decreases-loop-rest : goal.decreases-loop-rest
decreases-loop-rest g l = length (parts_after l.rest)
