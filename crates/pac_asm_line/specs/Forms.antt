-- Believed: the form of a line, as a function of its tokens: by cases on the whole line (this profile's source language).
-- Where there is none, the line is refused as A2.
use Rattle.std.specs.Prelude.{ℕ, Bool, true, false, not, ◌||◌, List, [], ◌∷◌, Option, Some, None, option_map, is_some, if◌then◌else◌}
use Rattle.std.specs.Option.{option_or}
use Rattle.pac_lex.specs.declared.token.TokenKind.{TokenKind}
use Rattle.pac_lex.specs.declared.token.TokenKind.TheVariants as kinds
use Rattle.pac_lex.specs.Tokens.{Lexeme}
use Rattle.pac_lex.specs.TextsProofs.{characters_of}
use Rattle.pac_expr.specs.Trees.{Tree}
use Rattle.pac_table_names.specs.Names.{is_operation, name_of}
use Rattle.pac_asm_operation.specs.declared.directive.Directive.{Directive}
use Rattle.pac_asm_operation.specs.declared.directive.Directive.TheVariants as directives
use Rattle.pac_asm_operation.specs.Directives.{directive_of, is_directive}
use Rattle.pac_asm_operation.specs.Reserved.{expression_in}
use Rattle.pac_asm_operation.specs.Operands.{each_or_none, parts_at_commas}
use Rattle.pac_asm_operation.specs.Operations.{operation_of}
use Rattle.pac_asm_line.specs.Statements.{DataPart, text, value, Statement, nothing, origin, equate, bytes, words, space, condition}
use Rattle.pac_asm_line.specs.Statements.{otherwise, end_condition, operation, Form}

abbrev pub is_name_kind : TokenKind → Bool
is_name_kind kinds.Name = true
is_name_kind kind = false

abbrev pub is_colon : TokenKind → Bool
is_colon kinds.Colon = true
is_colon kind = false

-- The characters of a text that stands alone, as an operand or as all of them.
abbrev pub text_of_token : TokenKind → List ℕ → Option (List ℕ)
text_of_token kinds.Text written = Some (characters_of written)
text_of_token kind written = None

abbrev pub text_in : List Lexeme → Option (List ℕ)
text_in (token ∷ []) = text_of_token token.kind token.text
text_in tokens = None

-- An operand of a DEFB. A text of one character is an expression too, of the same byte: alone it counts as a text.
abbrev pub part_in : List Lexeme → Option DataPart
part_in tokens = option_or (option_map text (text_in tokens)) (option_map value (expression_in tokens))

-- one or more operands, and one or two
abbrev pub one_or_more : {X Y : Type 0} → (List X → Y) → Option (List X) → Option Y
one_or_more make None = None
one_or_more make (Some []) = None
one_or_more make (Some (x ∷ xs)) = Some (make (x ∷ xs))

abbrev pub one_or_two : Option (List Tree) → Option Statement
one_or_two (Some (size ∷ [])) = Some (space size None)
one_or_two (Some (size ∷ fill ∷ [])) = Some (space size (Some fill))
one_or_two trees = None

abbrev pub no_operands : Statement → List Lexeme → Option Statement
no_operands statement [] = Some statement
no_operands statement (token ∷ tokens) = None

-- a directive with the tokens after it
abbrev pub directive_statement : Directive → List Lexeme → Option Statement
directive_statement directives.Origin tokens = option_map origin (expression_in tokens)
directive_statement directives.Equate tokens = option_map equate (expression_in tokens)
directive_statement directives.Bytes tokens = one_or_more bytes (each_or_none part_in (parts_at_commas tokens))
directive_statement directives.Words tokens = one_or_more words (each_or_none expression_in (parts_at_commas tokens))
directive_statement directives.Space tokens = one_or_two (each_or_none expression_in (parts_at_commas tokens))
directive_statement directives.Text tokens = option_map (λ characters. bytes (text characters ∷ [])) (text_in tokens)
directive_statement directives.Condition tokens = option_map condition (expression_in tokens)
directive_statement directives.Otherwise tokens = no_operands otherwise tokens
directive_statement directives.EndCondition tokens = no_operands end_condition tokens

-- a word with the tokens after it: a directive, or else an operation of the table
abbrev pub directive_or_operation : Option Directive → List ℕ → List Lexeme → Option Statement
directive_or_operation (Some directive) word tokens = directive_statement directive tokens
directive_or_operation None word tokens = option_map operation (operation_of word tokens)

unfoldable pub statement_of : List ℕ → List Lexeme → Option Statement
statement_of word tokens = directive_or_operation (directive_of word) word tokens

-- whether a word is no label, but the name of a directive or an operation
unfoldable pub begins_statement : List ℕ → Bool
begins_statement word = is_directive word || is_operation word

-- what follows a label and its colon, if it has one
abbrev pub after_colon : List Lexeme → List Lexeme
after_colon [] = []
after_colon (token ∷ tokens) = if is_colon token.kind then tokens else token ∷ tokens

abbrev pub statement_after_label : List Lexeme → Option Statement
statement_after_label [] = Some nothing
statement_after_label (token ∷ tokens) = if is_name_kind token.kind then statement_of token.text tokens else None

-- EQU must have a label; ORG, IF, ELSE and ENDIF have none.
abbrev pub may_stand : Bool → Statement → Bool
may_stand has_label (equate number) = has_label
may_stand has_label (origin place) = not has_label
may_stand has_label (condition test) = not has_label
may_stand has_label otherwise = not has_label
may_stand has_label end_condition = not has_label
may_stand has_label statement = true

abbrev pub form_with_label : Option (List ℕ) → Option Statement → Option Form
form_with_label label None = None
form_with_label label (Some statement) =
    if may_stand (is_some label) statement then Some (record { label = label; statement = statement }) else None

-- The form of a line. Its first name is a label exactly where it names no directive and no operation; the names of registers
-- and conditions are no labels.
unfoldable pub form_of : List Lexeme → Option Form
form_of [] = form_with_label None (Some nothing)
form_of (first ∷ tokens) =
    if not (is_name_kind first.kind) then None
    else (if begins_statement first.text then form_with_label None (statement_of first.text tokens)
    else (if is_some (name_of first.text) then None
    else form_with_label (Some first.text) (statement_after_label (after_colon tokens))))
