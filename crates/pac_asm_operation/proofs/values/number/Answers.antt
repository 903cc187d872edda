use Rattle.pac_asm_operation.proofs.Common.{ap, number_or_fault, tree_within, ◌∙◌}
use Rattle.pac_expr.specs.Values as expressions
use Rattle.pac_asm_operation.proofs.Expressions.{known-tree, answer-is, answer-stands}
use Rattle.pac_asm_operation.proofs.values.number.Goals as goal

pub returns-in-Some : goal.returns-in-Some
returns-in-Some g c =
    c.number_of.ensures ∙
    ap number_or_fault
    (answer-is (expressions.tree_value (g.S.SymbolLookup.lookup c.args.symbols.now) c.args.here) _ (tree_within c.args.tokens.now)
    c.in-Some.answer
    c.in-Some.ensures.exact (known-tree c.args.tokens.now c.requires))

pub returns-in-None : goal.returns-in-None
returns-in-None g c =
    absurd (answer-stands (expressions.tree_value (g.S.SymbolLookup.lookup c.args.symbols.now) c.args.here) _
    (tree_within c.args.tokens.now)
    c.in-None.ensures.exact (known-tree c.args.tokens.now c.requires))
