use Rattle.pac_asm_operation.proofs.Common.{arith, as_instruction}
use Rattle.pac_asm_operation.proofs.Held.{none-filled, one-filled, two-filled}
use Rattle.pac_asm_operation.proofs.coding.filled.Goals as goal

pub returns-in_err-parts : goal.returns-in_err-parts
returns-in_err-parts c = grind (arith, none-filled)

pub returns-in-None : goal.returns-in-None
returns-in-None c =
    let i = as_instruction c.args.parts in
    one-filled c.args.shapes.0 c.args.shapes.1 c.args.next c.args.first.now c.args.second.now c.in-Some.operand i
    (as_instruction c.in_ok-parts.parts) c.in-Some.is c.in-None.is c.requires
    c.in_ok-parts.ensures

pub returns-in-Some-second : goal.returns-in-Some-second
returns-in-Some-second c =
    let j = as_instruction c.in_ok-parts.parts in
    two-filled c.args.shapes.0 c.args.shapes.1 c.args.next c.args.first.now c.args.second.now c.in-Some.operand
    c.in-Some-second.operand (as_instruction c.args.parts) j _ c.in-Some.is c.in-Some-second.is c.requires
    c.in_ok-parts.ensures
    c.with_operand-in-Some-second.ensures
