use Rattle.pac_asm_line.proofs.Common.{after_gap, rules, sym, ◌∙◌}
use Rattle.pac_asm_line.proofs.FirstByte.{nothing-first, other-first}
use Rattle.pac_asm_line.proofs.conditional.conditional_of.Goals as goal

pub returns-in_err-first : goal.returns-in_err-first
returns-in_err-first c = c.from_residual.ensures ∙ nothing-first (after_gap c.args.line.now) c.in_err-first.ensures

pub returns-else-may_begin : goal.returns-else-may_begin
returns-else-may_begin c =
    other-first (after_gap c.args.line.now) c.in_ok-first.first c.in_ok-first.ensures (search rules) (sym c.if-may_begin.ensures)
