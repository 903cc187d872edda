use Rattle.pac_expr.proofs.Common.{sym, token_marks, tree_in, ◌∙◌}
use Rattle.pac_expr.proofs.Complete.{tree-shape}

pub returns : Rattle.pac_expr.proofs.shape.is_expression.Goals.returns
unfolding tree_in
returns c = c.is_shaped.ensures ∙ sym (tree-shape (token_marks c.args.tokens.now))
