-- Each by what the first four bytes hold.
use Rattle.pac_dis.proofs.Common.{arith, length-code}
use Rattle.pac_dis.proofs.Fronts.{begins-first_four, begins-within, first_four-begins, front-cut, front-found, front-none}
use Rattle.pac_dis.proofs.front.front.Goals as goal

pub returns-in_err-instr-clause-exact : goal.returns-in_err-instr-clause-exact
returns-in_err-instr-clause-exact c = grind (arith, front-none)

pub returns-in_err-instr-clause-inverse : goal.returns-in_err-instr-clause-inverse
returns-in_err-instr-clause-inverse c = grind (arith, begins-first_four, length-code)

pub returns-then-has_whole-clause-exact : goal.returns-then-has_whole-clause-exact
returns-then-has_whole-clause-exact c = grind (arith, front-found)

pub returns-then-has_whole-clause-prefix : goal.returns-then-has_whole-clause-prefix
returns-then-has_whole-clause-prefix c = grind (arith, first_four-begins, length-code)

pub returns-then-has_whole-clause-inverse : goal.returns-then-has_whole-clause-inverse
returns-then-has_whole-clause-inverse c = grind (arith, begins-first_four, length-code)

pub returns-else-has_whole-clause-exact : goal.returns-else-has_whole-clause-exact
returns-else-has_whole-clause-exact c = grind (arith, front-cut)

pub returns-else-has_whole-clause-inverse : goal.returns-else-has_whole-clause-inverse
returns-else-has_whole-clause-inverse c = grind (arith, begins-first_four, begins-within, length-code)
