use Rattle.pac_asm_operation.proofs.Common.{Lexeme, List, Option, arith, ends_closed, if◌then◌else◌, map-append}
use Rattle.std.proofs.Common.{Some, None}
use Rattle.pac_asm_operation.proofs.Expressions.{front, closed-front}
use Rattle.pac_asm_operation.proofs.parsing.before_closing.Goals as goal

-- what stands before the last token, if it closes
before : List Lexeme → Option (List Lexeme)
before tokens = if ends_closed tokens then Some (front tokens) else None

pub returns-then-closes : goal.returns-then-closes
unfolding before
returns-then-closes c = grind (arith, before, closed-front, map-append)

pub returns-else-closes : goal.returns-else-closes
unfolding before
returns-else-closes c = grind (arith, before, closed-front, map-append)
