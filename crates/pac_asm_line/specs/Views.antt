-- For proofs: what the code keeps of a line, as what it says: tokens stand for the trees and texts that they spell.
use Rattle.std.specs.Prelude.{List, [], ◌∷◌, map, option_map, unwrap_or}
use Rattle.std.specs.Option.{option_map_or}
use Rattle.pac_lex.specs.Tokens.{Lexeme}
use Rattle.pac_lex.specs.TokensProofs.{views}
use Rattle.pac_lex.specs.TextsProofs.{characters_of}
use Rattle.pac_expr.specs.Trees.{Tree, atom, here}
use Rattle.pac_expr.specs.Parsing.{tree_in}
use Rattle.pac_asm_operation.specs.Operands.{parts_at_commas}
use Rattle.pac_asm_operation.specs.Kept.{seen_operation}
use Rattle.pac_asm_line.specs.declared.expression.Expression as expressions
use Rattle.pac_asm_line.specs.declared.operands.OperandList as lists
use Rattle.pac_asm_line.specs.declared.statement.Statement.{Statement}
use Rattle.pac_asm_line.specs.declared.statement.Statement.TheVariants as kinds
use Rattle.pac_asm_line.specs.declared.statement.Form as forms
use Rattle.pac_asm_line.specs.Statements as says
use Rattle.pac_asm_line.specs.Forms.{text_in}

-- the tree that tokens spell; the tokens of an expression spell one, and others would count as `$`
abbrev pub spelled_tree : List Lexeme → Tree
spelled_tree tokens = unwrap_or (tree_in tokens) (atom here)

abbrev pub expression_tree : expressions.Expression → Tree
expression_tree expression = spelled_tree (views expression.tokens.now)

-- an operand of a DEFB, and all operands of a list
abbrev pub part_of_tokens : List Lexeme → says.DataPart
part_of_tokens tokens = option_map_or says.text (text_in tokens) (says.value (spelled_tree tokens))

abbrev pub parts_of_operands : lists.OperandList → List says.DataPart
parts_of_operands operands = map part_of_tokens (parts_at_commas (views operands.tokens.now))

abbrev pub trees_of : lists.OperandList → List Tree
trees_of operands = map spelled_tree (parts_at_commas (views operands.tokens.now))

abbrev pub seen_statement : Statement → says.Statement
seen_statement kinds.Nothing = says.nothing
seen_statement (kinds.Origin place) = says.origin (expression_tree place)
seen_statement (kinds.Equate number) = says.equate (expression_tree number)
seen_statement (kinds.Bytes operands) = says.bytes (parts_of_operands operands)
seen_statement (kinds.Text written) = says.bytes (says.text (characters_of written.now) ∷ [])
seen_statement (kinds.Words operands) = says.words (trees_of operands)
seen_statement (kinds.Space size fill) = says.space (expression_tree size) (option_map expression_tree fill)
seen_statement (kinds.Condition test) = says.condition (expression_tree test)
seen_statement kinds.Otherwise = says.otherwise
seen_statement kinds.EndCondition = says.end_condition
seen_statement (kinds.Operation written) = says.operation (seen_operation written)

abbrev pub seen_form : forms.Form → says.Form
seen_form form = record { label = option_map (λ name. name.now) form.label; statement = seen_statement form.statement }
