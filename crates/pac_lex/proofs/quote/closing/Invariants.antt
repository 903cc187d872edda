use Rattle.pac_lex.proofs.Common.{closing_length, drop, length, ◌-◌, ◌≡◌, ◌≤◌}
use Rattle.pac_lex.proofs.TextLaws.{more}
use Rattle.pac_lex.proofs.quote.closing.Given as goal

abbrev pub invariant-loop-at : goal.invariant-loop-at
invariant-loop-at l = record {
  within : l.at ≤ length l.bytes;
  rest : closing_length l.bytes ≡ more l.at (closing_length (drop l.at l.bytes));
}

abbrev pub decreases-loop-at : goal.decreases-loop-at
decreases-loop-at l = length l.bytes - l.at
