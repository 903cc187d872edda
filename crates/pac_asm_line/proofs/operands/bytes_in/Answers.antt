use Rattle.std.proofs.Common.{true, false, sym, ◌∙◌}
use Rattle.pac_asm_line.proofs.Common.{bytes, part_in, part_of_tokens}
use Rattle.pac_asm_line.proofs.Parts.{made-by, part-of}
use Rattle.pac_asm_line.proofs.operands.bytes_in.Goals as goal

pub returns-then-are_parts : goal.returns-then-are_parts
returns-then-are_parts c =
    sym (made-by bytes part_in part_of_tokens part-of c.args.tokens.now true (sym c.is_empty.ensures ∙ c.if-is_empty.false)
    (sym c.if-are_parts.true ∙ c.are_parts.ensures))

pub returns-else-are_parts : goal.returns-else-are_parts
returns-else-are_parts c =
    sym (made-by bytes part_in part_of_tokens part-of c.args.tokens.now false (sym c.is_empty.ensures ∙ c.if-is_empty.false)
    (sym c.if-are_parts.false ∙ c.are_parts.ensures))
