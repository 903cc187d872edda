use Rattle.pac_expr.proofs.Common.{Some, drop, ends_expression, token_marks, ◌≡◌, ◌≤◌}

abbrev pub invariant-loop-token : Rattle.pac_expr.proofs.shape.is_shaped.Given.invariant-loop-token
invariant-loop-token l =
    (ends_expression (Some l.shape) (token_marks (drop l.token-index l.fn.tokens))
    ≡ ends_expression (Some l.initial.shape) (token_marks l.fn.tokens))
    × (l.shape.1 ≤ l.token-index)
