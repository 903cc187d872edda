use Rattle.pac_asm_operation.proofs.Common.{operand_pair, parts_in_row, suits_row, sym, ◌∙◌}
use Rattle.pac_asm_operation.proofs.Found.{found-placed, more-placed}
use Rattle.pac_asm_operation.proofs.coding.placed.Goals as goal

pub returns-in-Some : goal.returns-in-Some
returns-in-Some c =
    let operands = operand_pair c.args.first.now c.args.second.now in
    found-placed (suits_row c.args.family c.args.size c.args.next operands) (parts_in_row c.args.family c.args.next operands)
    c.args.rows.now
    c.loop-row.row-index _ c.loop-row-test.true c.loop-row.invariant c.in-Some.ensures

pub loop-row-preserved : goal.loop-row-preserved
loop-row-preserved c =
    let operands = operand_pair c.args.first.now c.args.second.now in
    more-placed (suits_row c.args.family c.args.size c.args.next operands) (parts_in_row c.args.family c.args.next operands) c.args.rows.now
    c.loop-row.row-index c.loop-row-test.true c.loop-row.invariant (sym c.in_default.is ∙ c.placed_in.ensures)
