use Rattle.pac_run_files.proofs.Common.{HasWritten, IsPlainFormatter, flat_map, told_character}

abbrev pub invariant-loop-character : Rattle.pac_run_files.proofs.names.put_name.Given.invariant-loop-character
invariant-loop-character g l =
    IsPlainFormatter l.initial.f → HasWritten g.W.Write.write_str_gives l.initial.f (flat_map told_character l.yielded) l.f
