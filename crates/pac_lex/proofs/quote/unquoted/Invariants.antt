use Rattle.pac_lex.proofs.Common.{length, unquoted_characters, ◌++◌, ◌≡◌}
use Rattle.pac_lex.proofs.quote.unquoted.Given as goal

abbrev pub invariant-loop-rest : goal.invariant-loop-rest
invariant-loop-rest g l = l.found.items ++ unquoted_characters l.rest ≡ unquoted_characters l.inside

abbrev pub decreases-loop-rest : goal.decreases-loop-rest
decreases-loop-rest g l = length l.rest
