-- Believed: the operands of an operation, each by the whole of its tokens (this profile's source language).
use Rattle.std.specs.Prelude.{ℕ, ◌-◌, Bool, true, false, if◌then◌else◌, List, [], ◌∷◌, length, take}
use Rattle.std.specs.Prelude.{Option, Some, None, option_map}
use Rattle.std.specs.List.{slice_split}
use Rattle.std.specs.Option.{option_or, option_and_then}
use Rattle.pac_lex.specs.declared.token.TokenKind.{TokenKind}
use Rattle.pac_lex.specs.declared.token.TokenKind.TheVariants as kinds
use Rattle.pac_lex.specs.Tokens.{Lexeme}
use Rattle.pac_expr.specs.Trees.{Tree, group}
use Rattle.pac_table.specs.declared.operands.Name.{Name}
use Rattle.pac_table_names.specs.Names.{name_of}
use Rattle.pac_asm_operation.specs.declared.operand.Operand.{Operand}
use Rattle.pac_asm_operation.specs.declared.operand.Operand.TheVariants.{Named, AlternateAf, AtName, Indexed, Memory, Value}
use Rattle.pac_asm_operation.specs.Reserved.{expression_in}

-- ---- parts

abbrev pub is_comma_kind : TokenKind → Bool
is_comma_kind kinds.Comma = true
is_comma_kind kind = false

abbrev pub is_comma : Lexeme → Bool
is_comma token = is_comma_kind token.kind

-- tokens parted at their commas; where there are no tokens there are no parts
abbrev pub parts_at_commas : List Lexeme → List (List Lexeme)
parts_at_commas [] = []
parts_at_commas tokens = slice_split is_comma tokens

-- ---- an operand

abbrev pub opens : TokenKind → Bool
opens kinds.Open = true
opens kind = false

abbrev pub closes : TokenKind → Bool
closes kinds.Close = true
closes kind = false

abbrev pub is_sign : TokenKind → Bool
is_sign kinds.Plus = true
is_sign kinds.Minus = true
is_sign kind = false

-- the register, pair or condition that a token is
abbrev pub name_in : TokenKind → List ℕ → Option Name
name_in kinds.Name text = name_of text
name_in kind text = None

-- an expression, which is an address where it stands in parentheses as a whole
abbrev pub operand_of_tree : Tree → Operand Tree
operand_of_tree (group inner) = Memory inner
operand_of_tree tree = Value tree

abbrev pub expression_operand : List Lexeme → Option (Operand Tree)
expression_operand tokens = option_map operand_of_tree (expression_in tokens)

-- a name, `AF'`, or an expression of one token
abbrev pub lone_operand : TokenKind → List ℕ → List Lexeme → Option (Operand Tree)
lone_operand kinds.AlternateAf text tokens = Some AlternateAf
lone_operand kind text tokens = option_or (option_map Named (name_in kind text)) (expression_operand tokens)

-- a name in parentheses, with a displacement, which begins with its sign, or without one
abbrev pub indirect_operand : Name → List Lexeme → Option (Operand Tree)
indirect_operand name [] = Some (AtName name)
indirect_operand name (first ∷ rest) =
    if is_sign first.kind then option_map (Indexed name) (expression_in (first ∷ rest)) else None

-- whether the last token is `)`
abbrev pub ends_closed : List Lexeme → Bool
ends_closed [] = false
ends_closed (token ∷ []) = closes token.kind
ends_closed (token ∷ tokens) = ends_closed tokens

-- what follows `(` and a name: all up to a `)` at the end
abbrev pub operand_after_name : Name → List Lexeme → Option (Operand Tree)
operand_after_name name tokens = if ends_closed tokens then indirect_operand name (take (length tokens - 1) tokens) else None

-- an operand of two tokens or more: with a name after `(`, or else an expression
abbrev pub operand_by_name : Option Name → List Lexeme → List Lexeme → Option (Operand Tree)
operand_by_name (Some name) rest tokens = operand_after_name name rest
operand_by_name None rest tokens = expression_operand tokens

abbrev pub long_operand : Lexeme → Lexeme → List Lexeme → Option (Operand Tree)
long_operand first second rest =
    if opens first.kind then operand_by_name (name_in second.kind second.text) rest (first ∷ second ∷ rest)
    else expression_operand (first ∷ second ∷ rest)

-- the operand that tokens are, if they are one
unfoldable pub operand_of : List Lexeme → Option (Operand Tree)
operand_of [] = None
operand_of (token ∷ []) = lone_operand token.kind token.text (token ∷ [])
operand_of (first ∷ second ∷ rest) = long_operand first second rest

-- what each of a list is, if each is something
abbrev pub each_or_none : {X Y : Type 0} → (X → Option Y) → List X → Option (List Y)
each_or_none f [] = Some []
each_or_none f (x ∷ xs) = option_and_then (λ y. option_map (λ ys. y ∷ ys) (each_or_none f xs)) (f x)

-- the operands that parts are, if each is one
abbrev pub operands_of_parts : List (List Lexeme) → Option (List (Operand Tree))
operands_of_parts parts = each_or_none operand_of parts
