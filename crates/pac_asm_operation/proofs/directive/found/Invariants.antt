use Rattle.pac_asm_operation.proofs.Common.{drop, lookup, map, str_eq_ignore_ascii_case, ◌≡◌}

abbrev pub invariant-loop-name : Rattle.pac_asm_operation.proofs.directive.found.Given.invariant-loop-name
invariant-loop-name l =
    lookup (str_eq_ignore_ascii_case l.word) (map (λ entry. (entry.0.now, entry.1)) (drop l.name-index l.names))
    ≡ lookup (str_eq_ignore_ascii_case l.word) (map (λ entry. (entry.0.now, entry.1)) l.names)
