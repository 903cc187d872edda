use Rattle.pac_table.proofs.Common.{IsByte, Pattern, ap, opcode, pattern_of, subst, sym, ◌∙◌}
use Rattle.pac_table.proofs.Uniqueness.{fields-held}

pub opcode-requires : Rattle.pac_table.proofs.instruction.Instr.opcode.Goals.opcode-requires
opcode-requires c =
    let self = c.self.inside in
    let held = fields-held self.row self.p self.q c.self.invariant.row c.self.invariant.first c.self.invariant.second in
    let is = c.pattern-pattern.ensures.value ∙ ap pattern_of (sym c.self.view_is) in
    subst (λ (pattern : Pattern). IsByte (opcode pattern self.p self.q)) (sym is) held.is_byte
