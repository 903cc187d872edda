use Rattle.std.proofs.Common.{arith}
use Rattle.pac_lex.proofs.LineLaws.{read-again, fault-found, is-read, is-fault}
use Rattle.pac_lex.proofs.reading.tokens.Goals as goal

pub returns-clause-read : goal.returns-clause-read
returns-clause-read g c = is-read c.args.line.now c.checked.result c.checked.ensures

pub returns-clause-only : goal.returns-clause-only
returns-clause-only g c = grind (arith, read-again)

pub returns-clause-fault : goal.returns-clause-fault
returns-clause-fault g c = is-fault c.args.line.now c.checked.result c.checked.ensures

pub returns-clause-refused : goal.returns-clause-refused
returns-clause-refused g c = grind (arith, fault-found)
