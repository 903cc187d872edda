use Rattle.pac_table_names.proofs.Common.{drop, find, is_written, text_of_name, ◌≡◌}

abbrev pub invariant-loop-name : Rattle.pac_table_names.proofs.names.name_among.Given.invariant-loop-name
invariant-loop-name l =
    find (λ name. is_written l.word (text_of_name name)) (drop l.name-index l.names)
    ≡ find (λ name. is_written l.word (text_of_name name)) l.names
