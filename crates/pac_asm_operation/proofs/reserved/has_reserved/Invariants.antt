use Rattle.pac_asm_operation.proofs.Common.{drop, is_reserved_token, list_any, views, ◌≡◌}

abbrev pub invariant-loop-token : Rattle.pac_asm_operation.proofs.reserved.has_reserved.Given.invariant-loop-token
invariant-loop-token l =
    list_any is_reserved_token (views (drop l.token-index l.tokens)) ≡ list_any is_reserved_token (views l.tokens)
