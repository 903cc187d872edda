use Rattle.pac_run_options.proofs.Common.{drop, map, rule_of, told_argument, ◌++◌, ◌≡◌}

-- what was added, and the rest of the rows
abbrev pub invariant-loop-row : Rattle.pac_run_options.proofs.command.add_arguments.Given.invariant-loop-row
invariant-loop-row l =
    map rule_of l.arguments.items ++ map told_argument (drop l.row-index l.rows)
    ≡ map rule_of l.fn.arguments.items ++ map told_argument l.rows
