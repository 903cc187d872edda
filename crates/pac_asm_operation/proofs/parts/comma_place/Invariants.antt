use Rattle.pac_asm_operation.proofs.Common.{drop, is_comma, position_or_len, views, ◌+◌, ◌≡◌}

abbrev pub invariant-loop-token : Rattle.pac_asm_operation.proofs.parts.comma_place.Given.invariant-loop-token
invariant-loop-token l =
    (l.at ≡ l.token-index) ×
    (l.at + position_or_len is_comma (views (drop l.token-index l.tokens)) ≡ position_or_len is_comma (views l.tokens))
