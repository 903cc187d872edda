use Rattle.pac_asm_operation.proofs.Common.{drop, find, operand_pair, suits_row, ◌≡◌}

abbrev pub invariant-loop-row : Rattle.pac_asm_operation.proofs.coding.placed.Given.invariant-loop-row
invariant-loop-row l =
    find (suits_row l.family l.size l.next (operand_pair l.first l.second)) (drop l.row-index l.rows) ≡
    find (suits_row l.family l.size l.next (operand_pair l.first l.second)) l.rows
