use Rattle.pac_asm_operation.proofs.Common.{drop, find, fits_row, operand_pair, ◌≡◌}

abbrev pub invariant-loop-row : Rattle.pac_asm_operation.proofs.form.first_row.Given.invariant-loop-row
invariant-loop-row g l =
    find (fits_row l.family (operand_pair l.first l.second)) (drop l.row-index l.rows) ≡
    find (fits_row l.family (operand_pair l.first l.second)) l.rows
