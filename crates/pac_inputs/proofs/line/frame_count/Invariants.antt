use Rattle.pac_inputs.proofs.Common.{drop, frame_count, with_digits, ◌≡◌, ◌≤◌}

abbrev pub invariant-loop-byte : Rattle.pac_inputs.proofs.line.frame_count.Given.invariant-loop-byte
invariant-loop-byte l = record { small : l.value ≤ 36000; rest : with_digits 36000 l.value (drop l.byte-index l.word) ≡ frame_count l.word }
