use Rattle.pac_asm_line.proofs.Common.{length, map, min, parts_after, spelled_tree, trees_of, ◌*◌, ◌+◌, ◌≡◌, ◌≤◌}
use Rattle.pac_asm_line.proofs.operands.words_size.Given as goal

abbrev pub invariant-loop-rest : goal.invariant-loop-rest
invariant-loop-rest l = record {
  bound : l.size ≤ 65535;
  same : min (l.size + 2 * length (map spelled_tree (parts_after l.rest))) 65535 ≡ min (2 * length (trees_of l.fn.operands)) 65535;
}

abbrev pub decreases-loop-rest : goal.decreases-loop-rest
decreases-loop-rest l = length (parts_after l.rest)
