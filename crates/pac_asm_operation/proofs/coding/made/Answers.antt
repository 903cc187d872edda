use Rattle.pac_asm_operation.proofs.Common.{IfSome, Instruction, IsInstruction, arith, as_instruction, holds, ints, row_at, rules, subst}
use Rattle.pac_asm_operation.proofs.Common.{sym, to_z-of_z, with_row_number, ◌≡◌}
use mir.Val.{to_z, of_z}
use mir.Syntax.{w8}
use Rattle.pac_asm_operation.proofs.Held.{held-instruction, instruction-held, picked}

pub returns : Rattle.pac_asm_operation.proofs.coding.made.Goals.returns
returns c =
    let parts = c.args.parts.now in
    let n = c.args.row in
    let disp : to_z w8 (of_z w8 parts.disp) ≡ parts.disp = grind (arith, ints, to_z-of_z) in
    let made : Instruction = with_row_number n (as_instruction parts) in
    let given : Instruction =
    record { row = c.from.result; p = parts.p; q = parts.q; word = parts.word; disp = to_z w8 (of_z w8 parts.disp) } in
    let same : given ≡ made = search rules in
    picked c.new.result (holds (row_at n).pattern (as_instruction parts)) made
    (λ some. instruction-held n (as_instruction parts) (subst (λ (i : Instruction). IsInstruction i) same (c.new.ensures.valid.0 some)))
    (λ is. c.new.ensures.valid.1 (subst (λ (i : Instruction). IsInstruction i) (sym same)
    (held-instruction n (as_instruction parts) c.requires is)))
    (subst (λ (i : Instruction). IfSome c.new.result (λ j. j ≡ i)) same c.new.ensures.value)
