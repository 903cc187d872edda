use Rattle.pac_expr.proofs.Common.{arith, sym, token_marks, tree_in, ◌∙◌}
use Rattle.pac_expr.proofs.Complete.{whole-value, more-none, refused-none, none-left, some-left}
use Rattle.pac_expr.proofs.reading.evaluated.Goals as goal

pub returns-in_err-value : goal.returns-in_err-value
unfolding tree_in
returns-in_err-value g c =
    c.from_residual.ensures
    ∙ sym (refused-none (g.S.SymbolLookup.lookup c.args.symbols.now) c.args.here (token_marks c.args.tokens.now)
    c.in_err-value.ensures.value)

pub returns-then-is_empty : goal.returns-then-is_empty
unfolding tree_in
returns-then-is_empty g c = grind (arith, none-left, whole-value)

pub returns-else-is_empty : goal.returns-else-is_empty
unfolding tree_in
returns-else-is_empty g c = grind (arith, more-none, some-left)
