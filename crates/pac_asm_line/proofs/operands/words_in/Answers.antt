use Rattle.std.proofs.Common.{true, false, sym, ◌∙◌}
use Rattle.pac_asm_line.proofs.Common.{expression_in, spelled_tree, words}
use Rattle.pac_asm_line.proofs.Parts.{made-by, spelled-of}
use Rattle.pac_asm_line.proofs.operands.words_in.Goals as goal

pub returns-then-are_expressions : goal.returns-then-are_expressions
returns-then-are_expressions c =
    sym (made-by words expression_in spelled_tree spelled-of c.args.tokens.now true (sym c.is_empty.ensures ∙ c.if-is_empty.false)
    (sym c.if-are_expressions.true ∙ c.are_expressions.ensures))

pub returns-else-are_expressions : goal.returns-else-are_expressions
returns-else-are_expressions c =
    sym (made-by words expression_in spelled_tree spelled-of c.args.tokens.now false (sym c.is_empty.ensures ∙ c.if-is_empty.false)
    (sym c.if-are_expressions.false ∙ c.are_expressions.ensures))
