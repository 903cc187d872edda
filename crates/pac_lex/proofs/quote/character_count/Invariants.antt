use Rattle.pac_lex.proofs.Common.{characters_of, length, unquoted_characters, ◌+◌, ◌≡◌, ◌≤◌}
use Rattle.pac_lex.proofs.quote.character_count.Given as goal

abbrev pub invariant-loop-rest : goal.invariant-loop-rest
invariant-loop-rest l = record {
  within : l.count + length l.rest ≤ length l.text;
  counted : l.count + length (unquoted_characters l.rest) ≡ length (characters_of l.text);
}

abbrev pub decreases-loop-rest : goal.decreases-loop-rest
decreases-loop-rest l = length l.rest
