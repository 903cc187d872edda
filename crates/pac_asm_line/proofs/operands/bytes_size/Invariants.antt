use Rattle.pac_asm_line.proofs.Common.{length, map, min, part_of_tokens, part_size, parts_after, parts_of_operands, sum_by, ◌+◌, ◌≡◌, ◌≤◌}
use Rattle.pac_asm_line.proofs.operands.bytes_size.Given as goal

abbrev pub invariant-loop-rest : goal.invariant-loop-rest
invariant-loop-rest l = record {
  bound : l.size ≤ 65535;
  same : min (l.size + sum_by part_size (map part_of_tokens (parts_after l.rest))) 65535
      ≡ min (sum_by part_size (parts_of_operands l.fn.operands)) 65535;
}

abbrev pub decreases-loop-rest : goal.decreases-loop-rest
decreases-loop-rest l = length (parts_after l.rest)
