use Rattle.pac_run_files.proofs.Common.{map, take, told_file, told_part, ◌≡◌}

abbrev pub invariant-loop-name : Rattle.pac_run_files.proofs.parts.parts_of.Given.invariant-loop-name
invariant-loop-name l = map told_part l.parts.items ≡ map told_file (take l.name-index l.named)
