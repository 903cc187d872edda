use Rattle.pac_lex.proofs.Common.{drop, number_in_base, ◌<◌, ◌≡◌}
use Rattle.pac_lex.proofs.NumberLemmas.{with_digits}

abbrev pub invariant-loop-byte : Rattle.pac_lex.proofs.number.in_base.Given.invariant-loop-byte
invariant-loop-byte l =
    record { small : l.value < 65536; rest : with_digits l.base l.value (drop l.byte-index l.digits) ≡ number_in_base l.base l.digits }
