use Rattle.std.proofs.Common.{arith}
use Rattle.pac_asm_operation.proofs.Expressions.{is-tree, memory-found, value-found, none-inside, none-between}
use Rattle.pac_asm_operation.proofs.parsing.expression.Goals as goal
use Rattle.pac_asm_operation.proofs.parsing.expression.Goals.{in-Some+else-is_source_expression, in_default}

pub returns-then-is_source_expression : goal.returns-then-is_source_expression
returns-then-is_source_expression c = grind (arith, is-tree, memory-found)

pub returns-then-is_source_expression-2 : goal.returns-then-is_source_expression-2
returns-then-is_source_expression-2 c =
    grind (arith, in-Some+else-is_source_expression, in_default, is-tree, none-between, none-inside, value-found)
