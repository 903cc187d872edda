use Rattle.pac_asm_operation.proofs.Common.{Instruction, List, Row, Shape, all_take, ap, arith, as_instruction, eq-eqb, family_in}
use Rattle.pac_asm_operation.proofs.Common.{fits_as, holds, operand_pair, parts_as, pos, row_at, row_size, rules, sym}
use Rattle.pac_asm_operation.proofs.Common.{written_operands, ℕ, ◌==◌, ◌∙◌, ◌≡◌}
use Rattle.pac_asm_operation.proofs.Held.{all_taken, suited, unsuited}
use Rattle.pac_asm_operation.proofs.coding.placed_in.Goals as goal

abbrev start : ℕ → Instruction
start value = record { row = 0; p = value; q = 0; word = 0; disp = pos 0 }

-- the form and the value of a row that was read are those of the table's
abbrev family_of : ℕ → Row → ℕ
family_of family row = family_in row.operands.mnemonic family

form-read : (shapes : List Shape) (row other : Row) (value family : ℕ) → shapes ≡ written_operands row.operands value →
    value ≡ family_of family row → row ≡ other → shapes ≡ written_operands other.operands (family_of family other)
form-read shapes row other value family are is same = search rules

pub filled-requires : goal.filled-requires
filled-requires c = search rules

pub returns-in_err-parts : goal.returns-in_err-parts
returns-in_err-parts c = grind (arith, all_taken, form-read, unsuited)

pub returns : goal.returns
returns c =
    let operands = operand_pair c.args.first.now c.args.second.now in
    let row = row_at c.args.row in
    let value = family_of c.args.family row in
    let same = c.row_numbered.ensures ∙ ap row_at c.from.ensures in
    let shapes =
    form-read _ c.row_numbered.result.now row c.family_in-value.result c.args.family c.written.ensures c.family_in-value.ensures same in
    let value_is = c.family_in-value.ensures ∙ ap (family_of c.args.family) same in
    let made = parts_as value c.args.next operands row in
    c.made.ensures ∙
    suited (row_size row == c.args.size) (fits_as value operands row) (all_take (written_operands row.operands value) c.args.next operands)
    (holds row.pattern) c.args.row (as_instruction c.in_ok-parts.parts) made
    (eq-eqb (row_size row) c.args.size (sym c.row_size.ensures ∙ c.if-row_size-size.false))
    (sym c.fits.ensures ∙ c.if-not-fits.false) (grind (arith, all_taken))
