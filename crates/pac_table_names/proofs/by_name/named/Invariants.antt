use Rattle.pac_table_names.proofs.Common.{drop, find, is_text, ◌≡◌}

abbrev pub invariant-loop-name : Rattle.pac_table_names.proofs.by_name.named.Given.invariant-loop-name
invariant-loop-name l = find (is_text l.bytes) (drop l.name-index l.words) ≡ find (is_text l.bytes) l.words
