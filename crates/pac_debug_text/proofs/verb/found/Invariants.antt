use Rattle.pac_debug_text.proofs.Common.{bytes_eq, drop, lookup, map, ◌≡◌}

abbrev pub invariant-loop-name : Rattle.pac_debug_text.proofs.verb.found.Given.invariant-loop-name
invariant-loop-name l =
    lookup (bytes_eq l.word) (map (λ entry. (entry.0.now, entry.1)) (drop l.name-index l.names))
    ≡ lookup (bytes_eq l.word) (map (λ entry. (entry.0.now, entry.1)) l.names)
