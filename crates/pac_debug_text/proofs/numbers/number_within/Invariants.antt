use Rattle.pac_debug_text.proofs.Common.{drop, number_within, with_digits, ◌≡◌, ◌≤◌}

abbrev pub invariant-loop-byte : Rattle.pac_debug_text.proofs.numbers.number_within.Given.invariant-loop-byte
invariant-loop-byte l =
    record { small : l.value ≤ l.most; rest : with_digits l.most l.value (drop l.byte-index l.word) ≡ number_within l.most l.word }
