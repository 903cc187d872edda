-- Believed: what a token is, and what a line of tokens is (this profile's source language).
use Rattle.std.specs.Prelude.{◌≡◌, ◌<◌, ◌≤◌, length, ℕ, Bool, List, [], ◌∷◌, ◌++◌, ◌==◌, ◌||◌, ◌&&◌, not, false, IsTrue, IsFalse}
use Rattle.std.specs.Prelude.{Option, Some, None, ◌⊎◌, is_some}
use Rattle.std.specs.Map.{lookup}
use Rattle.std.specs.List.{list_all}
use Rattle.std.specs.Char.{is_ascii_digit, is_ascii_alphanumeric}
use Rattle.pac_lex.specs.declared.token.TokenKind.{TokenKind}
use Rattle.pac_lex.specs.declared.token.TokenKind.TheVariants.{Name, Number, Text, AlternateAf}
use Rattle.pac_lex.specs.declared.token.TokenKind.TheVariants.{Dollar, Colon, Comma, Open, Close, Plus, Minus, Star, Slash}
use Rattle.pac_lex.specs.declared.fault.LexFault.{LexFault}
use Rattle.pac_lex.specs.declared.fault.LexFault.TheVariants.{NoToken, WrongNumber, OpenText, LongLine}
use Rattle.pac_lex.specs.Bytes.{is_blank, is_comment_start, is_quote, is_name_start, is_name_byte, is_printable, after_gap}
use Rattle.pac_lex.specs.Numbers.{numeral}
use Rattle.pac_lex.specs.Texts.{quoted_text}

-- a token without where it lies in memory
pub record Lexeme : Type 0 where
  pub kind : TokenKind
  pub text : List ℕ

-- the tokens of one byte: `$`, `:`, `,`, `(`, `)`, `+`, `-`, `*` and `/`
abbrev pub one_byte_kinds : List (ℕ × TokenKind)
one_byte_kinds =
    (36, Dollar) ∷ (58, Colon) ∷ (44, Comma) ∷ (40, Open) ∷ (41, Close)
    ∷ (43, Plus) ∷ (45, Minus) ∷ (42, Star) ∷ (47, Slash) ∷ []

-- the token that a byte is by itself, if it is one
abbrev pub one_byte_kind : ℕ → Option TokenKind
one_byte_kind b = lookup (λ c. b == c) one_byte_kinds

-- AF in either case
abbrev pub is_af : List ℕ → Bool
is_af (a ∷ f ∷ []) = (a == 65 || a == 97) && (f == 70 || f == 102)
is_af bytes = false

-- the first byte passes, if there is one; there is one, and it passes
abbrev pub begins : (ℕ → Bool) → List ℕ → Bool
begins p [] = false
begins p (b ∷ bytes) = p b

-- These bytes are a token of this kind, where the line goes on with rest. A name and a number are as
-- long as they can be; so is a text, since a doubled quote doesn't close it. AF with a quote after it
-- is AF'.
abbrev pub IsToken : TokenKind → List ℕ → List ℕ → Type 0
IsToken Name text rest =
    IsTrue (begins is_name_start text) × IsTrue (list_all is_name_byte text) × IsFalse (begins is_name_byte rest)
    × IsFalse (is_af text && begins is_quote rest)
IsToken (Number n) text rest =
    IsTrue (begins is_ascii_digit text) × IsTrue (list_all is_ascii_alphanumeric text)
    × IsFalse (begins is_ascii_alphanumeric rest) × (numeral text ≡ Some n)
IsToken Text text rest =
    (characters : List ℕ) × (text ≡ quoted_text characters) × IsTrue (list_all is_printable characters) × IsFalse (begins is_quote rest)
IsToken AlternateAf text rest = (name : List ℕ) × IsTrue (is_af name) × (text ≡ name ++ 39 ∷ [])
IsToken kind text rest = (b : ℕ) × (one_byte_kind b ≡ Some kind) × (text ≡ b ∷ [])

-- no blank, no comment and no token begins with the byte
abbrev pub begins_nothing : ℕ → Bool
begins_nothing b = not (is_blank b || is_comment_start b || is_name_start b || is_ascii_digit b || is_quote b || is_some (one_byte_kind b))

-- the fault that these bytes begin with
abbrev pub IsTokenFault : LexFault → List ℕ → Type 0
IsTokenFault NoToken bytes =
    IsTrue (begins begins_nothing bytes)
    ⊎ ((characters : List ℕ) × (rest : List ℕ) × (bytes ≡ quoted_text characters ++ rest) × IsFalse (begins is_quote rest)
    × IsFalse (list_all is_printable characters))
IsTokenFault WrongNumber bytes =
    (run : List ℕ) × (rest : List ℕ) × (bytes ≡ run ++ rest) × IsTrue (begins is_ascii_digit run)
    × IsTrue (list_all is_ascii_alphanumeric run) × IsFalse (begins is_ascii_alphanumeric rest) × (numeral run ≡ None)
IsTokenFault OpenText bytes =
    IsTrue (begins is_quote bytes)
    × ((characters rest : List ℕ) → bytes ≡ quoted_text characters ++ rest → IsFalse (begins is_quote rest) → ⊥)
IsTokenFault LongLine bytes = ⊥

-- what follows the blanks that the line begins with is this token, and then rest
pub record TokenFirst (line : List ℕ) (token : Lexeme) (rest : List ℕ) : Type 0 where
  pub parts : after_gap line ≡ token.text ++ rest
  pub is_token : IsToken token.kind token.text rest

-- the line is read as these tokens, each in its own bytes, from left to right, and no more than a comment is left
abbrev pub ReadsTokens : List ℕ → List Lexeme → Type 0
ReadsTokens line [] = IsFalse (begins (λ b. not (is_comment_start b)) (after_gap line))
ReadsTokens line (token ∷ tokens) = (rest : List ℕ) × TokenFirst line token rest × ReadsTokens rest tokens

-- the line is read as these tokens up to this fault
abbrev pub Breaks : List ℕ → List Lexeme → LexFault → Type 0
Breaks line [] fault = IsTokenFault fault (after_gap line)
Breaks line (token ∷ tokens) fault = (rest : List ℕ) × TokenFirst line token rest × Breaks rest tokens fault

-- the most bytes that a line may have (this profile)
abbrev pub most_line_bytes : ℕ
most_line_bytes = 255

-- a line of tokens, which isn't too long
abbrev pub IsRead : List ℕ → List Lexeme → Type 0
IsRead line tokens = (length line ≤ most_line_bytes) × ReadsTokens line tokens

-- the one fault of a line: its length, or else the leftmost
abbrev pub HasLexFault : List ℕ → LexFault → Type 0
HasLexFault line LongLine = most_line_bytes < length line
HasLexFault line fault = (length line ≤ most_line_bytes) × (tokens : List Lexeme) × Breaks line tokens fault
