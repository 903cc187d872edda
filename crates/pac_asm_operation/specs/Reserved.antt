-- Believed: the names that stand for no symbol, and the expressions of the source, which have none of them (this
-- profile's source language).
use Rattle.std.specs.Prelude.{ℕ, Bool, false, ◌||◌, if◌then◌else◌, List, Option, None, is_some}
use Rattle.std.specs.List.{list_any}
use Rattle.pac_lex.specs.declared.token.TokenKind.{TokenKind}
use Rattle.pac_lex.specs.declared.token.TokenKind.TheVariants as kinds
use Rattle.pac_lex.specs.Tokens.{Lexeme}
use Rattle.pac_expr.specs.Trees.{Tree}
use Rattle.pac_expr.specs.Parsing.{tree_in}
use Rattle.pac_table_names.specs.Names.{is_operation, name_of}
use Rattle.pac_asm_operation.specs.Directives.{is_directive}

-- the name of an operation or a directive, of a register, a pair or a condition, in either case
abbrev pub is_reserved : List ℕ → Bool
is_reserved word = is_operation word || is_some (name_of word) || is_directive word

-- whether a token is a reserved word
abbrev pub reserves : TokenKind → List ℕ → Bool
reserves kinds.Name text = is_reserved text
reserves kind text = false

abbrev pub is_reserved_token : Lexeme → Bool
is_reserved_token token = reserves token.kind token.text

-- the tree of an expression of the source: one in which no name is reserved
unfoldable pub expression_in : List Lexeme → Option Tree
expression_in tokens = if list_any is_reserved_token tokens then None else tree_in tokens
