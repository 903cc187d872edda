use Rattle.pac_asm_line.proofs.Common.{expression_in, is_comma, is_some, length, list_all, parts_after, slice_split, views, ◌≡◌}
use Rattle.pac_asm_line.proofs.operands.are_expressions.Given as goal

abbrev pub invariant-loop-rest : goal.invariant-loop-rest
invariant-loop-rest l =
    list_all (λ tokens. is_some (expression_in tokens)) (parts_after l.rest)
    ≡ list_all (λ tokens. is_some (expression_in tokens)) (slice_split is_comma (views l.fn.tokens))

abbrev pub decreases-loop-rest : goal.decreases-loop-rest
decreases-loop-rest l = length (parts_after l.rest)
