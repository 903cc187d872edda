-- For proofs: what the code keeps of an operand, as the operand of the definitions: the tokens of an expression by their tree.
use Rattle.std.specs.Prelude.{◌≡◌, ℕ, Bool, true, false, ◌-◌, ◌&&◌, if◌then◌else◌, List, [], ◌∷◌, length, take, map, Option, Some, None}
use Rattle.std.specs.Option.{unwrap_or}
use denote.Ref.{Bor}
use Rattle.pac_lex.specs.declared.token.Token.{Token}
use Rattle.pac_lex.specs.Tokens.{Lexeme}
use Rattle.pac_lex.specs.TokensProofs.{views}
use Rattle.pac_expr.specs.Trees.{Tree, atom, here}
use Rattle.pac_asm_operation.specs.declared.operand.Operand.{Operand}
use Rattle.pac_asm_operation.specs.declared.operand.Operand.TheVariants.{Named, AlternateAf, AtName, Indexed, Memory, Value}
use Rattle.pac_table.specs.declared.operands.Shape.{Shape}
use Rattle.pac_table.specs.declared.operands.Shape.TheVariants as shape
use Rattle.pac_table.specs.Instructions.{row_at}
use Rattle.pac_table_names.specs.ByName.{family_in}
use Rattle.pac_asm_operation.specs.Reserved.{expression_in}
use Rattle.pac_asm_operation.specs.Operations.{is_form, fits_as}
use Rattle.pac_asm_operation.specs.Operands.{opens, ends_closed}

-- the tree of tokens that are an expression
unfoldable pub tree_of_tokens : List Lexeme → Tree
tree_of_tokens tokens = unwrap_or (expression_in tokens) (atom here)

abbrev pub tree_within : List Token → Tree
tree_within tokens = tree_of_tokens (views tokens)

abbrev pub IsTree : List Token → Type 0
IsTree tokens = expression_in (views tokens) ≡ Some (tree_within tokens)

abbrev pub seen_operand : Operand (Bor (List Token)) → Operand Tree
seen_operand (Named name) = Named name
seen_operand AlternateAf = AlternateAf
seen_operand (AtName name) = AtName name
seen_operand (Indexed name tokens) = Indexed name (tree_within tokens.now)
seen_operand (Memory tokens) = Memory (tree_within tokens.now)
seen_operand (Value tokens) = Value (tree_within tokens.now)

-- the tokens that an operand keeps are expressions
abbrev pub IsKnown : Operand (Bor (List Token)) → Type 0
IsKnown (Named name) = Unit {0}
IsKnown AlternateAf = Unit {0}
IsKnown (AtName name) = Unit {0}
IsKnown (Indexed name tokens) = IsTree tokens.now
IsKnown (Memory tokens) = IsTree tokens.now
IsKnown (Value tokens) = IsTree tokens.now

-- what was found is the operand of the definition, or there is none
abbrev pub FindsOperand : Option (Operand (Bor (List Token))) → Option (Operand Tree) → Type 0
FindsOperand None operand = operand ≡ None
FindsOperand (Some found) operand = IsKnown found × (operand ≡ Some (seen_operand found))

-- what stands between a parenthesis at the first token and one at the last
abbrev pub inside_parentheses : List Lexeme → Option (List Lexeme)
inside_parentheses [] = None
inside_parentheses (first ∷ rest) = if opens first.kind && ends_closed rest then Some (take (length rest - 1) rest) else None

-- two operands, of which the second is there only after a first one
abbrev pub operand_pair : {A : Type 0} → Option (Operand A) → Option (Operand A) → List (Operand A)
operand_pair None second = []
operand_pair (Some first) None = first ∷ []
operand_pair (Some first) (Some second) = first ∷ second ∷ []

abbrev pub seen_operands : Option (Operand (Bor (List Token))) → Option (Operand (Bor (List Token))) → List (Operand Tree)
seen_operands first second = map seen_operand (operand_pair first second)

abbrev pub IsKnownIf : Option (Operand (Bor (List Token))) → Type 0
IsKnownIf None = Unit {0}
IsKnownIf (Some operand) = IsKnown operand

-- whether operands have the form of the row of a number, where this value is what the name tells in a family
abbrev pub fits_row : {A : Type 0} → ℕ → List (Operand A) → ℕ → Bool
fits_row family operands n = fits_as (family_in (row_at n).operands.mnemonic family) operands (row_at n)

abbrev pub is_absent : Shape → Bool
is_absent shape.Absent = true
is_absent _ = false

abbrev pub is_form_if : {A : Type 0} → Shape → Option (Operand A) → Bool
is_form_if some None = is_absent some
is_form_if some (Some operand) = is_form some operand
