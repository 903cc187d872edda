-- A quote in quotes, and any other character in them.
use Rattle.pac_lex.proofs.Common.{arith, common_steps}
use Rattle.pac_lex.proofs.quote.one_character.Goals as goal

pub returns-in-39-2-clause-some : goal.returns-in-39-2-clause-some
returns-in-39-2-clause-some c = grind (arith, common_steps)

pub returns-in-39-clause-some : goal.returns-in-39-clause-some
returns-in-39-clause-some c = grind (arith, common_steps)
