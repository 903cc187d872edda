use Rattle.pac_asm_line.proofs.Common.{is_comma, is_some, length, list_all, part_in, parts_after, slice_split, views, ◌≡◌}
use Rattle.pac_asm_line.proofs.operands.are_parts.Given as goal

abbrev pub invariant-loop-rest : goal.invariant-loop-rest
invariant-loop-rest l =
    list_all (λ tokens. is_some (part_in tokens)) (parts_after l.rest)
    ≡ list_all (λ tokens. is_some (part_in tokens)) (slice_split is_comma (views l.fn.tokens))

abbrev pub decreases-loop-rest : goal.decreases-loop-rest
decreases-loop-rest l = length (parts_after l.rest)
